-- Shuffles of two words: made, extended and cut.
use Rattle.std.proofs.Common.{◌≡◌, ℕ, ◌⊎◌, List, [], ◌∷◌, ◌++◌, sym, refl, subst, ap₂, inl, inr}
use Rattle.runs.specs.Words.{Shuffle, Shuffle.none, Shuffle.left, Shuffle.right}
use Rattle.runs.proofs.Lists.{All, not_empty, same_head, same_tail}

pub shuffle_append : (u v : List ℕ) → Shuffle u v (u ++ v)
shuffle_append [] [] = none
shuffle_append [] (n ∷ v) = right (shuffle_append [] v)
shuffle_append (n ∷ u) v = left (shuffle_append u v)

pub shuffle_turn : {u v s : List ℕ} → Shuffle u v s → Shuffle v u s
shuffle_turn none = none
shuffle_turn (left m) = right (shuffle_turn m)
shuffle_turn (right m) = left (shuffle_turn m)

pub shuffle_empty : (u : List ℕ) → Shuffle u [] u
shuffle_empty [] = none
shuffle_empty (n ∷ u) = left (shuffle_empty u)

-- more behind the first word
pub shuffle_more : {u v s : List ℕ} → Shuffle u v s → (more : List ℕ) → Shuffle (u ++ more) v (s ++ more)
shuffle_more none more = shuffle_empty more
shuffle_more (left m) more = left (shuffle_more m more)
shuffle_more (right m) more = right (shuffle_more m more)

-- more behind both words
pub shuffle_extend : {u v s : List ℕ} → Shuffle u v s → (b c : List ℕ) → Shuffle (u ++ b) (v ++ c) (s ++ (b ++ c))
shuffle_extend none b c = shuffle_append b c
shuffle_extend (left m) b c = left (shuffle_extend m b c)
shuffle_extend (right m) b c = right (shuffle_extend m b c)

pub all_shuffle : {Q : ℕ → Type 0} {u v s : List ℕ} → Shuffle u v s → All Q u → All Q v → All Q s
all_shuffle none hs ks = All.none
all_shuffle (left m) (All.more h hs) ks = All.more h (all_shuffle m hs ks)
all_shuffle (right m) hs (All.more k ks) = All.more k (all_shuffle m hs ks)

-- u is a shuffle of beginnings of w and of v, of which b and c are left
pub record Cut (w v u b c : List ℕ) : Type 0 where
  pub first : List ℕ
  pub second : List ℕ
  pub first_is : w ≡ first ++ b
  pub second_is : v ≡ second ++ c
  pub shuffled : Shuffle first second u

cut_none : {w v : List ℕ} → Cut w v [] w v
cut_none = record { first = []; second = []; first_is = refl; second_is = refl; shuffled = none }

cut_left : {k n : ℕ} {w v u b c : List ℕ} → n ≡ k → Cut w v u b c → Cut (n ∷ w) v (k ∷ u) b c
cut_left {k} e t = record { first = k ∷ t.first; second = t.second; first_is = ap₂ ◌∷◌ e t.first_is; second_is = t.second_is; shuffled = left t.shuffled }

cut_right : {k n : ℕ} {w v u b c : List ℕ} → n ≡ k → Cut w v u b c → Cut w (n ∷ v) (k ∷ u) b c
cut_right {k} e t = record { first = t.first; second = k ∷ t.second; first_is = t.first_is; second_is = ap₂ ◌∷◌ e t.second_is; shuffled = right t.shuffled }

-- a shuffle cut in two cuts both words
pub shuffle_cut : (u rest : List ℕ) {w v s : List ℕ} → Shuffle w v s → s ≡ u ++ rest → (b c : List ℕ) × Cut w v u b c
shuffle_cut [] rest {w = w} {v = v} m e = (w, v, cut_none)
shuffle_cut (k ∷ u) rest none e = absurd (not_empty [] k (u ++ rest) e)
shuffle_cut (k ∷ u) rest (left m) e = let t = shuffle_cut u rest m (same_tail e) in (t.0, t.1, cut_left (same_head e) t.2)
shuffle_cut (k ∷ u) rest (right m) e = let t = shuffle_cut u rest m (same_tail e) in (t.0, t.1, cut_right (same_head e) t.2)

-- a shuffle cut before a letter, which stands in one of the two words
pub shuffle_split : {w v s : List ℕ} → Shuffle w v s → (u : List ℕ) (n : ℕ) (rest : List ℕ) → s ≡ u ++ (n ∷ rest)
    → ((b c : List ℕ) × Cut w v u (n ∷ b) c) ⊎ ((b c : List ℕ) × Cut w v u b (n ∷ c))
shuffle_split none u n rest e = absurd (not_empty u n rest e)
shuffle_split (left {u = w} {v = v} m) [] n rest e = inl (w, v, subst (λ (k : ℕ). Cut (k ∷ w) v [] (n ∷ w) v) (sym (same_head e)) cut_none)
shuffle_split (right {u = w} {v = v} m) [] n rest e = inr (w, v, subst (λ (k : ℕ). Cut w (k ∷ v) [] w (n ∷ v)) (sym (same_head e)) cut_none)
shuffle_split (left m) (k ∷ u) n rest e =
    elim (shuffle_split m u n rest (same_tail e)) [
      | inl t ↦ inl (t.0, t.1, cut_left (same_head e) t.2)
      | inr t ↦ inr (t.0, t.1, cut_left (same_head e) t.2)
    ]
shuffle_split (right m) (k ∷ u) n rest e =
    elim (shuffle_split m u n rest (same_tail e)) [
      | inl t ↦ inl (t.0, t.1, cut_right (same_head e) t.2)
      | inr t ↦ inr (t.0, t.1, cut_right (same_head e) t.2)
    ]
