-- Members of lists, and lists cut in two.
use Rattle.std.proofs.Common.{◌≡◌, ℕ, ◌⊎◌, List, [], ◌∷◌, ◌++◌, sym, refl, ap, ap₂, inl, inr, arith}
use Rattle.runs.specs.Scheme.{Pick}

pub data In (n : ℕ) : List ℕ → Type 0 where
  here : {ns : List ℕ} → In n (n ∷ ns)
  there : {m : ℕ} {ns : List ℕ} → In n ns → In n (m ∷ ns)

-- Q holds of each member
pub data All (Q : ℕ → Type 0) : List ℕ → Type 0 where
  none : All Q []
  more : {n : ℕ} {ns : List ℕ} → Q n → All Q ns → All Q (n ∷ ns)

pub all_of : (Q : ℕ → Type 0) (ns : List ℕ) → ((n : ℕ) → In n ns → Q n) → All Q ns
all_of Q [] h = All.none
all_of Q (n ∷ ns) h = All.more (h n In.here) (all_of Q ns (λ m i. h m (In.there i)))

pub all_map : {Q S : ℕ → Type 0} {ns : List ℕ} → ((n : ℕ) → Q n → S n) → All Q ns → All S ns
all_map f All.none = All.none
all_map f (All.more {n = n} h hs) = All.more (f n h) (all_map f hs)

pub all_append : {Q : ℕ → Type 0} {ms ns : List ℕ} → All Q ms → All Q ns → All Q (ms ++ ns)
all_append All.none ks = ks
all_append (All.more h hs) ks = All.more h (all_append hs ks)

pub all_front : {Q : ℕ → Type 0} (ms ns : List ℕ) → All Q (ms ++ ns) → All Q ms
all_front [] ns hs = All.none
all_front (m ∷ ms) ns (All.more h hs) = All.more h (all_front ms ns hs)

pub pick_in : {q : ℕ} {qs rs : List ℕ} → Pick q qs rs → In q qs
pick_in Pick.here = In.here
pick_in (Pick.there k) = In.there (pick_in k)

pub in_pick : {q : ℕ} {qs : List ℕ} → In q qs → (rs : List ℕ) × Pick q qs rs
in_pick (In.here {ns = qs}) = (qs, Pick.here)
in_pick (In.there {m = o} i) = let t = in_pick i in (o ∷ t.0, Pick.there t.1)

-- the others are members too
pub other_in : {q o : ℕ} {qs rs : List ℕ} → Pick q qs rs → In o rs → In o qs
other_in Pick.here i = In.there i
other_in (Pick.there k) In.here = In.here
other_in (Pick.there k) (In.there i) = In.there (other_in k i)

pub not_empty : (u : List ℕ) (n : ℕ) (v : List ℕ) → [] ≡ u ++ (n ∷ v) → ⊥
not_empty [] n v e = let z : ◌≡◌ {A = ℕ} 0 1 = cc in omega arith
not_empty (m ∷ u) n v e = let z : ◌≡◌ {A = ℕ} 0 1 = cc in omega arith

pub same_head : {m n : ℕ} {u v : List ℕ} → (m ∷ u) ≡ (n ∷ v) → m ≡ n
same_head e = cc

pub same_tail : {m n : ℕ} {u v : List ℕ} → (m ∷ u) ≡ (n ∷ v) → u ≡ v
same_tail e = cc

-- a word of one letter, cut at a letter
pub single : (u v : List ℕ) {m n : ℕ} → (m ∷ []) ≡ u ++ (n ∷ v) → (u ≡ []) × (m ≡ n)
single [] v e = (refl, same_head e)
single (k ∷ u) v {n = n} e = absurd (not_empty u n v (same_tail e))

-- a letter of w ++ v stands in w or in v
pub append_split : (w v before : List ℕ) (n : ℕ) (behind : List ℕ) → w ++ v ≡ before ++ (n ∷ behind)
    → ((rest : List ℕ) × (w ≡ before ++ (n ∷ rest))) ⊎ ((more : List ℕ) × (before ≡ w ++ more) × (v ≡ more ++ (n ∷ behind)))
append_split [] v before n behind e = inr (before, refl, e)
append_split (m ∷ w) v [] n behind e = inl (w, ap (λ k. k ∷ w) (same_head e))
append_split (m ∷ w) v (k ∷ before) n behind e =
    elim (append_split w v before n behind (same_tail e)) [
      | inl t ↦ inl (t.0, ap₂ ◌∷◌ (same_head e) t.1)
      | inr t ↦ inr (t.0, ap₂ ◌∷◌ (sym (same_head e)) t.1, t.2)
    ]
