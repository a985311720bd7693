use Rattle.runs.proofs.Plans.{fit}
use Rattle.runs.proofs.Completed.{approach_beginning}
use Rattle.runs.proofs.Approached.{beginning_approach}
use Rattle.runs.proofs.beginnings.Goals as goal

pub returns : goal.returns
returns c = record {
  words = λ p d sound whole r n u. (λ within x. approach_beginning (fit p sound whole d) x, beginning_approach r n u);
  approaches = λ p d sound whole r n u. approach_beginning (fit p sound whole d);
}
