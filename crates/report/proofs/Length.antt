-- How long a report can be.
use Rattle.std.proofs.Common.{◌≡◌, ℕ, zero, suc, ◌*◌, ◌/◌, ◌^◌, ◌<◌, ◌≤◌, Bool, true, false, length, ℤ, pos, negsuc, Some, None, decimal, Option, arith, lit<, length-append, w32, SFits}
use Rattle.std.proofs.lemmas.Fmt.{length-decimal-le}
use Rattle.std.proofs.lemmas.Bool.{true≢false}
use Rattle.tenths.specs.Text.{text_of, size_text}
use Rattle.report.specs.Reported.{Findings, lines_of, node_lines, lines_to, count_to, total_line, report_text}
use Rattle.report.proofs.Lines.{count_le}

-- a node that sends is neither redundant nor dead
abbrev pub Alone : Bool → Bool → Option ℤ → Type 0
Alone redundant dead None = Unit {0}
Alone redundant dead (Some c) = (redundant ≡ false) × (dead ≡ false) × SFits w32 c

size_short : (n : ℕ) → n ≤ 2 ^ 31 → length (size_text n) ≤ 11
size_short n h = simp length-append (omega (arith, length-decimal-le 9 (n / 10) (lit< tt) (omega (arith, h)) (omega (arith, h))))

label_short : (c : ℤ) → SFits w32 c → length (text_of c) ≤ 12
label_short (pos n) fits = omega (arith, size_short n (omega (arith, fits.sfits)))
label_short (negsuc n) fits = omega (arith, size_short (suc n) (omega (arith, fits.sfits)))

number_short : (n : ℕ) → n < 1000 → length (decimal n) ≤ 3
number_short n h = length-decimal-le 3 n (lit< tt) (omega (arith, h)) (omega (arith, h))

node_short : (n : ℕ) → n < 1000 → (redundant dead : Bool) (sent : Option ℤ) → Alone redundant dead sent → length (lines_of n redundant dead sent) ≤ 23
node_short n h true true None a = simp length-append (omega (arith, number_short n h))
node_short n h true false None a = simp length-append (omega (arith, number_short n h))
node_short n h false true None a = simp length-append (omega (arith, number_short n h))
node_short n h false false None a = omega arith
node_short n h true dead (Some c) a = absurd (true≢false a.0)
node_short n h false true (Some c) a = absurd (true≢false a.1)
node_short n h false false (Some c) a = simp length-append (omega (arith, number_short n h, label_short c a.2))

module _ (f : Findings) where
  lines_short : (n : ℕ) → n < 1000 → ((k : ℕ) → k < n → Alone (f.redundant k) (f.dead k) (f.sent k)) → length (lines_to f n) ≤ 23 * n
  lines_short zero h alone = omega arith
  lines_short (suc n) h alone =
      omega (
        arith,
        length-append (lines_to f n) (node_lines f n),
        lines_short n (omega (arith, h)) (λ k l. alone k (omega (arith, l))),
        node_short n (omega (arith, h)) (f.redundant n) (f.dead n) (f.sent n) (alone n (omega arith)),
      )

  -- the report of 256 nodes is at most 5921 bytes long
  pub report_short : (n : ℕ) → n ≤ 256 → ((k : ℕ) → k < n → Alone (f.redundant k) (f.dead k) (f.sent k)) → length (report_text f n) ≤ 8192
  report_short n h alone =
      let redundant = count_to f.redundant n in
      let dead = count_to f.dead n in
      let total : length (total_line n redundant dead) ≤ 33 =
      simp length-append (omega (arith, number_short n (omega (arith, h)), number_short redundant (omega (arith, h, count_le f.redundant n)), number_short dead (omega (arith, h, count_le f.dead n)))) in
      omega (arith, length-append (lines_to f n) (total_line n redundant dead), lines_short n (omega (arith, h)) alone, total)
