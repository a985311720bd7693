-- What stands before a letter of a full word is an approach to it.
use Rattle.std.proofs.Common.{◌≡◌, ℕ, List, [], ◌∷◌, ◌++◌, sym, ap, ◌∙◌, subst, inl, inr, append_assoc, append-nil}
use Rattle.plan.specs.declared.node.Direction.{Direction}
use Rattle.plan.specs.Drawn.{Drawn}
use Rattle.runs.specs.Words.{Way, Way.start, Written, Written.step, Written.fork, Full, Full.full, Woven, Beginning}
use Rattle.runs.specs.Runs.{Begun, Approach, Approach.direct, Approach.inside, Nearing, Nearing.first, Nearing.later}
use Rattle.runs.proofs.Lists.{not_empty, single, append_split}
use Rattle.runs.proofs.Shuffles.{shuffle_cut, shuffle_split}

module _ {p : Drawn} {d : Direction} where
  -- a beginning of a shuffle is a shuffle of beginnings
  woven_begun : {qs v : List ℕ} → Woven p d qs v → (u rest : List ℕ) → v ≡ u ++ rest → Begun p d qs u
  woven_begun Woven.none [] rest e = Begun.none
  woven_begun Woven.none (k ∷ u) rest e = absurd (not_empty [] k (u ++ rest) e)
  woven_begun (Woven.more {q = q} f fs m) u rest e =
      let (b, c, t) = shuffle_cut u rest m e in
      Begun.more (record { rest = b; whole = subst (Full p d q) t.first_is f }) (woven_begun fs t.second c t.second_is) t.shuffled

  mutual
    way_cut : {r m : ℕ} {w : List ℕ} → Way p d r m w → (u : List ℕ) (n : ℕ) (rest : List ℕ) → w ≡ u ++ (n ∷ rest) → Approach p d r n u
    way_cut (start b) u n rest e = absurd (not_empty u n rest e)
    way_cut (Way.go {r = r} {w = w} {v = v} a b l) u n rest e =
        elim (append_split w v u n rest e) [
          | inl t ↦ way_cut a u n t.0 t.1
          | inr t ↦ subst (Approach p d r n) (sym t.1) (written_cut b t.0 n rest t.2 a)
        ]

    written_cut : {m : ℕ} {v : List ℕ} → Written p d m v → (u : List ℕ) (n : ℕ) (rest : List ℕ) → v ≡ u ++ (n ∷ rest)
        → {r : ℕ} {w : List ℕ} → Way p d r m w → Approach p d r n (w ++ u)
    written_cut (step {n = m} h) u n rest e {r} {w} a =
        let (empty, same) = single u rest e in
        subst (λ (k : ℕ). Approach p d r k (w ++ u)) same (subst (Approach p d r m) (sym (ap (λ s. w ++ s) empty ∙ append-nil w)) (direct a))
    written_cut (fork f x) u n rest e a = inside a f (woven_cut x u n rest e)

    full_cut : {r : ℕ} {w : List ℕ} → Full p d r w → (u : List ℕ) (n : ℕ) (rest : List ℕ) → w ≡ u ++ (n ∷ rest) → Approach p d r n u
    full_cut (full {r = r} {w = w} {v = v} a c b) u n rest e =
        elim (append_split w v u n rest e) [
          | inl t ↦ way_cut a u n t.0 t.1
          | inr t ↦ subst (Approach p d r n) (sym t.1) (written_cut b t.0 n rest t.2 a)
        ]

    woven_cut : {qs v : List ℕ} → Woven p d qs v → (u : List ℕ) (n : ℕ) (rest : List ℕ) → v ≡ u ++ (n ∷ rest) → Nearing p d n qs u
    woven_cut Woven.none u n rest e = absurd (not_empty u n rest e)
    woven_cut (Woven.more {q = q} f fs m) u n rest e =
        elim (shuffle_split m u n rest e) [
          | inl (b, c, t) ↦ first (full_cut f t.first n b t.first_is) (woven_begun fs t.second c t.second_is) t.shuffled
          | inr (b, c, t) ↦ later (record { rest = b; whole = subst (Full p d q) t.first_is f }) (woven_cut fs t.second n c t.second_is) t.shuffled
        ]

  pub beginning_approach : (r n : ℕ) (u : List ℕ) → Beginning p d r (u ++ (n ∷ [])) → Approach p d r n u
  beginning_approach r n u b = full_cut b.whole u n b.rest (append_assoc u (n ∷ []) b.rest)
