-- Lists of nodes and of ends, with one more or with one replaced.
use Rattle.std.proofs.Common.{◌≡◌, ℕ, zero, suc, ◌+◌, ◌<◌, ◌⊎◌, List, [], ◌∷◌, ◌++◌, length, get_or, take, set, replicate, None, Option, sym, refl, ap, ◌∙◌, subst, subst₂, inl, inr, add_assoc, zero-add, arith, length-append, length-set, take_all, get_or-set_other, get_or-set_same}
use lib.Seq.{take-append-le, take-append_seam}
use Rattle.std.proofs.lemmas.List.{get_or_append_left, get_or_at}
use Rattle.std.proofs.lemmas.Bool.{cases_eq}
use Rattle.plan.specs.declared.statement.Statement.TheVariants.{Idle}
use Rattle.plan.specs.declared.node.Node.{Node}
use Rattle.plan.specs.declared.node.Node.TheVariants.{Step}
use Rattle.plan.specs.declared.node.Ends.{Ends}
use Rattle.plan.specs.Drawn.{branches, width, region_of}

-- a node that is not there reads as this one
abbrev pub origin : Node
origin = Step 0 Idle

pub branches-++ : (ns ms : List Node) → branches (ns ++ ms) ≡ branches ns + branches ms
branches-++ [] ms = sym (zero-add (branches ms))
branches-++ (n ∷ ns) ms = ap (λ k. width n + k) (branches-++ ns ms) ∙ sym (add_assoc (width n) (branches ns) (branches ms))

-- what holds of every element and those before it, holds with one more
pub pushed : {X : Type 0} (P : ℕ → X → List X → Type 0) (ns : List X) (x d : X)
    → ((n : ℕ) → n < length ns → P n (get_or ns n d) (take n ns)) → P (length ns) x ns
    → (n : ℕ) → n < length (ns ++ (x ∷ [])) → P n (get_or (ns ++ (x ∷ [])) n d) (take n (ns ++ (x ∷ [])))
pushed {X} P ns x d old new n h = go (cases_eq n (length ns))
  where
    go : ((n ≡ length ns) ⊎ (n ≡ length ns → ⊥)) → P n (get_or (ns ++ (x ∷ [])) n d) (take n (ns ++ (x ∷ [])))
    go (inl e) =
        subst (λ (m : ℕ). P m (get_or (ns ++ (x ∷ [])) m d) (take m (ns ++ (x ∷ [])))) (sym e)
        (subst₂ (λ (y : X) (ms : List X). P (length ns) y ms) (sym (get_or_at ns x [] d (length ns) refl)) (sym (take-append_seam ns (x ∷ []))) new)
    go (inr e) =
        let l : n < length ns = omega (arith, h, length-append ns (x ∷ [])) in
        subst₂ (λ (y : X) (ms : List X). P n y ms) (sym (get_or_append_left ns (x ∷ []) d n l)) (sym (take-append-le n ns (x ∷ []) (omega arith))) (old n l)

-- the node is there and lies in the region
abbrev pub In : List Node → Node → ℕ → ℕ → Type 0
In ns d r n = (n < length ns) × (region_of (get_or ns n d) ≡ r)

pub in_pushed : (ns : List Node) (x d : Node) (r n : ℕ) → In ns d r n → In (ns ++ (x ∷ [])) d r n
in_pushed ns x d r n h = (omega (arith, h.0, length-append ns (x ∷ [])), ap region_of (get_or_append_left ns (x ∷ []) d n h.0) ∙ h.1)

-- a node replaced by one of the same region
pub region_replaced : (ns : List Node) (i : ℕ) (x d : Node) → region_of x ≡ region_of (get_or ns i d) → (n : ℕ) → n < length ns → region_of (get_or (set ns i x) n d) ≡ region_of (get_or ns n d)
region_replaced ns i x d same n h = go (cases_eq n i)
  where
    go : ((n ≡ i) ⊎ (n ≡ i → ⊥)) → region_of (get_or (set ns i x) n d) ≡ region_of (get_or ns n d)
    go (inl e) =
        subst (λ (m : ℕ). region_of (get_or (set ns i x) m d) ≡ region_of (get_or ns m d)) (sym e)
        (ap region_of (get_or-set_same ns i x d (subst (λ (m : ℕ). m < length ns) e h)) ∙ same)
    go (inr e) = ap region_of (get_or-set_other ns i n x d e)

pub in_replaced : (ns : List Node) (i : ℕ) (x d : Node) (r n : ℕ) → region_of x ≡ region_of (get_or ns i d) → In ns d r n → In (set ns i x) d r n
in_replaced ns i x d r n same h = (simp length-set h.0, region_replaced ns i x d same n h.0 ∙ h.1)

-- a node replaced by one of as many branches
pub branches_replaced : (ns : List Node) (i : ℕ) (x d : Node) → i < length ns → width x ≡ width (get_or ns i d) → (n : ℕ) → branches (take n (set ns i x)) ≡ branches (take n ns)
branches_replaced [] i x d h same n = absurd (omega arith)
branches_replaced (y ∷ ns) i x d h same zero = refl
branches_replaced (y ∷ ns) zero x d h same (suc n) = ap (λ k. k + branches (take n ns)) same
branches_replaced (y ∷ ns) (suc i) x d h same (suc n) = ap (λ k. width y + k) (branches_replaced ns i x d (omega arith) same n)

pub branches_set : (ns : List Node) (i : ℕ) (x d : Node) → i < length ns → width x ≡ width (get_or ns i d) → branches (set ns i x) ≡ branches ns
branches_set ns i x d h same =
    ap branches (sym (take_all (length ns) (set ns i x) (simp length-set (omega arith)))) ∙ branches_replaced ns i x d h same (length ns)
    ∙ ap branches (take_all (length ns) ns (omega arith))

-- copies of one element read as that element everywhere
pub getD_copies : {X : Type 0} (k i : ℕ) (x : X) → get_or (replicate k x) i x ≡ x
getD_copies zero i x = refl
getD_copies (suc k) zero x = refl
getD_copies (suc k) (suc i) x = getD_copies k i x

-- new regions have no ends
pub ends_more : (es : List (Option Ends)) (k r : ℕ) → get_or (es ++ replicate k None) r None ≡ get_or es r None
ends_more [] k r = getD_copies k r None
ends_more (e ∷ es) k zero = refl
ends_more (e ∷ es) k (suc r) = ends_more es k r
