-- Whether a statement assigns or uses a variable.
use Rattle.std.specs.Prelude.{ℕ, Bool, false, ◌||◌, List, [], ◌∷◌, Some, None, Option, ◌==◌}
use Rattle.plan.specs.declared.statement.Statement.{Statement}
use Rattle.plan.specs.Statements.{assigns, uses}

-- v is one of the variables of a list
abbrev pub among : ℕ → List ℕ → Bool
among v [] = false
among v (w ∷ ws) = w == v || among v ws

abbrev pub assigned : ℕ → Statement → Bool
assigned v s = among v (assigns s)

abbrev pub used : ℕ → Statement → Bool
used v s = among v (uses s)

abbrev pub variables_in : Option ℕ → List ℕ
variables_in None = []
variables_in (Some v) = v ∷ []
