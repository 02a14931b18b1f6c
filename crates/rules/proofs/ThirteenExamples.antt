-- The thirteen examples, shown of the definitions by a single statement over the list of them.
use mathlib.Core.Path.{◌≡◌, refl}
use mathlib.Core.List.{map}
use Rattle.rules.specs.Open.{everything}
use Rattle.rules.specs.Examples.{examples}

pub thirteen_examples : map (λ e. e.says) examples ≡ map (λ e. e.should) examples
unfolding everything examples
thirteen_examples = refl
