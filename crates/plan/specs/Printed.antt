-- Statements and calls as words.
use Rattle.std.specs.Prelude.{ℕ, List, [], ◌∷◌, ◌++◌, codes, decimal}
use Rattle.tenths.specs.Text.{text_of}
use Rattle.plan.specs.declared.call.Call.{Call}
use Rattle.plan.specs.declared.call.Call.TheVariants.{Lay, Fork, Arc, Ends, Change}
use Rattle.plan.specs.declared.statement.Statement.{Statement}
use Rattle.plan.specs.declared.statement.Statement.TheVariants.{Idle, Wait, Set, Copy, Send, Probe, Add, Sub, Min, Max}

-- numbers, each after a blank
abbrev pub spaced : List ℕ → List ℕ
spaced [] = []
spaced (n ∷ ns) = codes " " ++ decimal n ++ spaced ns

-- the name of a statement, and what it assigns before what it uses; a number of tenths is written as on a label
abbrev pub statement_text : Statement → List ℕ
statement_text Idle = codes "idle"
statement_text Wait = codes "wait"
statement_text (Set v c) = codes "set" ++ spaced (v ∷ []) ++ codes " " ++ text_of c
statement_text (Copy v a) = codes "copy" ++ spaced (v ∷ a ∷ [])
statement_text (Send a) = codes "send" ++ spaced (a ∷ [])
statement_text (Probe v p) = codes "probe" ++ spaced (v ∷ p ∷ [])
statement_text (Add v a b) = codes "add" ++ spaced (v ∷ a ∷ b ∷ [])
statement_text (Sub v a b) = codes "sub" ++ spaced (v ∷ a ∷ b ∷ [])
statement_text (Min v a b) = codes "min" ++ spaced (v ∷ a ∷ b ∷ [])
statement_text (Max v a b) = codes "max" ++ spaced (v ∷ a ∷ b ∷ [])

-- the name of a call, and its numbers in the order in which it takes them
abbrev pub call_text : Call → List ℕ
call_text (Lay r s) = codes "lay" ++ spaced (r ∷ []) ++ codes " " ++ statement_text s
call_text (Fork r k) = codes "fork" ++ spaced (r ∷ k ∷ [])
call_text (Arc m n) = codes "arc" ++ spaced (m ∷ n ∷ [])
call_text (Ends r first last) = codes "ends" ++ spaced (r ∷ first ∷ last ∷ [])
call_text (Change n s) = codes "change" ++ spaced (n ∷ []) ++ codes " " ++ statement_text s
