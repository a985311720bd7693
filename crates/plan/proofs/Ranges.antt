-- Every call that is accepted keeps the operands of a plan's steps in range.
use Rattle.std.proofs.Common.{◌≡◌, ℕ, ◌<◌, Bool, true, false, cond, not, ◌⊎◌, List, [], ◌∷◌, ◌++◌, length, get_or, set, Some, None, Option, refl, ap, ◌∙◌, inl, inr, arith, length-set, get_or-set_other, get_or-set_same}
use Rattle.std.proofs.lemmas.Bool.{cases_eq, leb-false, not-false}
use Rattle.plan.specs.declared.node.Node.{Node}
use Rattle.plan.specs.declared.node.Node.TheVariants as node
use Rattle.refusals.specs.declared.refusal.Refusal.{Refusal}
use Rattle.plan.specs.declared.call.Call.{Call}
use Rattle.plan.specs.declared.call.Call.TheVariants.{Lay, Fork, Arc, Ends, Change}
use Rattle.plan.specs.Drawn.{Drawn, blank, node_at, region_of, node_in_range, Ranged}
use Rattle.plan.specs.Calls.{no_region, no_node, refusal, accepted, kept_if, after, drawn}
use Rattle.plan.specs.Statements.{in_range}
use Rattle.plan.proofs.Nodes.{origin, pushed}
use Rattle.plan.proofs.Soundness.{after_all_keeps}

abbrev pub AllRanged : List Node → Type 0
AllRanged ns = (n : ℕ) → n < length ns → node_in_range (get_or ns n origin) ≡ true

pub none_ranged : AllRanged []
none_ranged n h = absurd (omega arith)

module _ (ns : List Node) (x : Node) (new : node_in_range x ≡ true) (s : AllRanged ns) where
  pub ranged_pushed : AllRanged (ns ++ (x ∷ []))
  ranged_pushed = pushed (λ n y before. node_in_range y ≡ true) ns x origin s new

  pub ranged_set : (n : ℕ) → n < length ns → AllRanged (set ns n x)
  ranged_set n h m l = fits (omega (arith, l, length-set ns n x)) (cases_eq m n)
    where
      fits : m < length ns → ((m ≡ n) ⊎ (m ≡ n → ⊥)) → node_in_range (get_or (set ns n x) m origin) ≡ true
      fits l (inl same) = ap (λ (i : ℕ). node_in_range (get_or (set ns n x) i origin)) same ∙ ap node_in_range (get_or-set_same ns n x origin h) ∙ new
      fits l (inr other) = ap node_in_range (get_or-set_other ns n m x origin other) ∙ s m l

-- what is not refused has passed the first test, and then the others
passed : (b : Bool) (e : Refusal) (o : Option Refusal) → cond b (Some e) o ≡ None → (b ≡ false) × (o ≡ None)
passed true e o is = cc
passed false e o is = (refl, is)

accepted_ranged : (p : Drawn) (c : Call) → refusal p c ≡ None → Ranged p → Ranged (accepted p c)
accepted_ranged p (Lay r st) is s =
    let there = passed (no_region p r) _ _ is in
    ranged_pushed p.nodes (node.Step r st) (not-false _ (passed (not (in_range st)) _ _ there.1).0) s
accepted_ranged p (Fork r k) is s = ranged_pushed p.nodes (node.Fork r (length p.ends) k) refl s
accepted_ranged p (Arc m n) is s = s
accepted_ranged p (Ends r f l) is s = s
accepted_ranged p (Change n st) is s =
    let there = passed (no_node p n) _ _ is in
    ranged_set p.nodes (node.Step (region_of (node_at p n)) st) (not-false _ (passed (not (in_range st)) _ _ there.1).0) s n (leb-false _ _ there.0)

after_ranged : (p : Drawn) (c : Call) → Ranged p → Ranged (after p c)
after_ranged p c s = go (refusal p c) refl
  where
    go : (o : Option Refusal) → refusal p c ≡ o → Ranged (kept_if o p (accepted p c))
    go None is = accepted_ranged p c is s
    go (Some e) is = s

-- every row of calls draws a plan whose operands are in range
pub drawn_ranged : (cs : List Call) → Ranged (drawn cs)
drawn_ranged cs = after_all_keeps Ranged after_ranged blank cs none_ranged
