-- What is so of every line of an accepted journal.
use Rattle.rules.specs.Header.{Header}
use Rattle.rules.specs.Journal.{History}
use Rattle.rules.specs.Due.{Line}
use Rattle.rules.proofs.Lines.{LineKnown}
use Rattle.fairness.specs.Lines.{Sound}

pub known_line_sound : (h : Header) (past : History) (l : Line) → LineKnown h past l → Sound l
known_line_sound h past l k = record { served = k.claim_in_customers; unclaimed = k.unclaimed }
