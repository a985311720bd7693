-- What a statement assigns, uses and reads.
use Rattle.std.specs.Prelude.{ℕ, Bool, true, ◌&&◌, List, [], ◌∷◌, ◌++◌, nat_le}
use Rattle.plan.specs.declared.statement.Statement.{Statement}
use Rattle.plan.specs.declared.statement.Statement.TheVariants.{Idle, Wait, Set, Copy, Send, Probe, Add, Sub, Min, Max}

-- the variables that it assigns
abbrev pub assigns : Statement → List ℕ
assigns Idle = []
assigns Wait = []
assigns (Set v c) = v ∷ []
assigns (Copy v a) = v ∷ []
assigns (Send a) = []
assigns (Probe v p) = v ∷ []
assigns (Add v a b) = v ∷ []
assigns (Sub v a b) = v ∷ []
assigns (Min v a b) = v ∷ []
assigns (Max v a b) = v ∷ []

-- the variables that it uses
abbrev pub uses : Statement → List ℕ
uses Idle = []
uses Wait = []
uses (Set v c) = []
uses (Copy v a) = a ∷ []
uses (Send a) = a ∷ []
uses (Probe v p) = []
uses (Add v a b) = a ∷ b ∷ []
uses (Sub v a b) = a ∷ b ∷ []
uses (Min v a b) = a ∷ b ∷ []
uses (Max v a b) = a ∷ b ∷ []

-- the probes that it reads
abbrev pub probes : Statement → List ℕ
probes Idle = []
probes Wait = []
probes (Set v c) = []
probes (Copy v a) = []
probes (Send a) = []
probes (Probe v p) = p ∷ []
probes (Add v a b) = []
probes (Sub v a b) = []
probes (Min v a b) = []
probes (Max v a b) = []

-- every number of a list is at most m
abbrev pub all_within : ℕ → List ℕ → Bool
all_within m [] = true
all_within m (n ∷ ns) = nat_le n m && all_within m ns

-- there are 16 variables and 8 probes
abbrev pub in_range : Statement → Bool
in_range s = all_within 15 (assigns s ++ uses s) && all_within 7 (probes s)
