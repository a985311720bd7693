-- The two lists and the numbers that are sent are what a report tells.
use Rattle.std.proofs.Common.{◌≡◌, ℕ, ◌<◌, ◌≤◌, Bool, true, false, eqb, ◌↔◌, List, [], length, ◌++◌, get_or, take, drop, replicate, ℤ, is_some, Some, None, Option, sym, refl, ap, ◌∙◌, subst, inl, inr, arith, eq-eqb, length-append}
use mathlib.Core.Bool.{or-false}
use borrow.Author.Tests.{clash}
use Rattle.std.proofs.lemmas.List.{get_or-take, length-take-le}
use Rattle.std.proofs.lemmas.Bool.{cases_Bool}
use Rattle.plan.specs.declared.node.Node.{Node}
use Rattle.plan.specs.Drawn.{Drawn, node_at, Ranged}
use Rattle.plan.proofs.Nodes.{getD_copies}
use Rattle.expressions.specs.Expressions.{computed_by}
use Rattle.expressions.specs.Variables.{among}
use Rattle.report.specs.Listing.{listed_in, ListsRedundant}
use Rattle.report.specs.Strikes.{RedundantStep}
use Rattle.report.specs.Unread.{assigned_by, used_by, DeadStep, ListsDead}
use Rattle.report.specs.Putting.{RoomFor}
use Rattle.report.specs.Reported.{SendsFixed, Findings, Found, report_text, findings_in, Reports}
use Rattle.report.specs.Sending.{SentBelow}
use Rattle.report.proofs.Length.{Alone, report_short}
use Rattle.report.proofs.Ranges.{node_uses_low}

-- at first nothing is noted
pub none_sent : (p : Drawn) (k : ℕ) → SentBelow p 0 (replicate k None)
none_sent p k = record {
  means = λ n h c. (λ e. absurd (clash (ap is_some (sym (getD_copies k n None) ∙ e))), λ s. absurd (omega (arith, s.2)));
  fits = λ n c e. absurd (clash (ap is_some (sym (getD_copies k n None) ∙ e)));
}

module _ (p : Drawn) (ranged : Ranged p) (kept : ℕ) (listed listed' unread unread' : List ℕ) (sent : List (Option ℤ))
    (redundant : ListsRedundant p listed listed') (dead : ListsDead p kept unread unread') (below : SentBelow p 16 sent) (k : ℕ) (all : k ≡ length p.nodes) where
  -- what the bytes of the nodes say
  abbrev pub findings : Findings
  findings = findings_in (take k listed') (take k unread') sent

  front : (bytes : List ℕ) (n : ℕ) → n < length p.nodes → listed_in bytes n ≡ listed_in (take k bytes) n
  front bytes n h = ap (λ (b : ℕ). eqb b 1) (sym (get_or-take k bytes n 0 (omega (arith, h, all))))

  sends : (n : ℕ) → n < length p.nodes → (c : ℤ) → (get_or sent n None ≡ Some c) ↔ SendsFixed p n c
  sends n h c = (
    λ e. let s = (below.means n h c).0 e in (s.0, s.1, s.3, s.4),
    λ s. let uses : among s.1 (used_by (node_at p n)) ≡ true = ap (λ (x : Node). among s.1 (used_by x)) s.2 ∙ or-false (eqb s.1 s.1) ∙ eq-eqb s.1 s.1 refl in
        (below.means n h c).1 (s.0, s.1, node_uses_low (node_at p n) s.1 (ranged n h) uses, s.2, s.3),
  )

  pub found : Found p kept findings
  found = record {
    redundant_is = λ n h. subst (λ (b : Bool). (b ≡ true) ↔ RedundantStep p n) (front listed' n h) (redundant.redundant n h);
    dead_is = λ n h. subst (λ (b : Bool). (b ≡ true) ↔ DeadStep p kept n) (front unread' n h) (dead.dead n h);
    sent_is = sends;
  }

  -- a step that sends computes nothing and assigns nothing
  not_redundant : (n : ℕ) → n < length p.nodes → (c : ℤ) → SendsFixed p n c → findings.redundant n ≡ false
  not_redundant n h c s =
      elim (cases_Bool (findings.redundant n)) [
        | inl on ↦ let r = (found.redundant_is n h).0 on in absurd (clash (ap is_some (sym (ap computed_by s.2) ∙ r.1)))
        | inr off ↦ off
      ]

  not_dead : (n : ℕ) → n < length p.nodes → (c : ℤ) → SendsFixed p n c → findings.dead n ≡ false
  not_dead n h c s =
      elim (cases_Bool (findings.dead n)) [
        | inl on ↦ let r = (found.dead_is n h).0 on in absurd (clash (sym (ap (λ (x : Node). among r.0 (assigned_by x)) s.2) ∙ r.1))
        | inr off ↦ off
      ]

  alone : (n : ℕ) → n < length p.nodes → (o : Option ℤ) → get_or sent n None ≡ o → Alone (findings.redundant n) (findings.dead n) o
  alone n h None is = tt
  alone n h (Some c) is = let s = (sends n h c).0 is in (not_redundant n h c s, not_dead n h c s, below.fits n c is)

  -- how many nodes the bytes are of
  abbrev pub nodes : ℕ
  nodes = length (take k listed')

  nodes-all : nodes ≡ length p.nodes
  nodes-all = length-take-le k listed' (omega (arith, all, redundant.room, redundant.kept.long)) ∙ all

  pub fits : length p.nodes ≤ 256 → RoomFor [] (report_text findings nodes)
  fits small = omega (arith, report_short findings nodes (omega (arith, nodes-all)) (λ n l. alone n (omega (arith, nodes-all)) (get_or sent n None) refl))

  pub reports : (before after : List ℕ) (written : ℕ) → 8192 ≤ length before → written ≡ length (report_text findings nodes) → after ≡ report_text findings nodes ++ drop written before
      → Reports p kept before after written
  reports before after written room long bytes = record {
    whole = redundant.whole;
    uncrowded = redundant.uncrowded;
    room = room;
    text = report_text findings nodes;
    reported = (findings, found, ap (report_text findings) nodes-all);
    long = long;
    bytes = bytes;
  }

-- the text of a report lies within the bytes
pub within : {p : Drawn} {kept : ℕ} {before after : List ℕ} {written : ℕ} → Reports p kept before after written → written ≤ length after
within {before = before} {written = written} r = omega (arith, r.long, ap length r.bytes, length-append r.text (drop written before))
