-- The sentences about one named input, shown of the definitions by a single statement over the list of them.
use mathlib.Core.Path.{◌≡◌, refl}
use mathlib.Core.List.{map}
use Rattle.rules.specs.Open.{everything}
use Rattle.rules.specs.Sentences.{sentences}

pub sentences_hold : map (λ e. e.says) sentences ≡ map (λ e. e.should) sentences
unfolding everything sentences
sentences_hold = refl
