-- Every call that is accepted keeps a plan sound.
use Rattle.std.proofs.Common.{◌≡◌, ℕ, suc, ◌+◌, ◌<◌, Bool, true, false, cond, not, ◌||◌, ltb, leb, ◌⊎◌, List, [], ◌∷◌, ◌++◌, length, get_or, take, set, replicate, Some, None, Option, sym, refl, ap, ◌∙◌, subst, subst₂, inl, inr, add-zero, arith, length-append, length-set, get_or-set_other, get_or-set_same}
use lib.ListN.{length-replicate}
use Rattle.std.proofs.lemmas.Bool.{cases_eq, true≢false, leb-false, eqb-true, not-false, or_parts}
use Rattle.plan.specs.declared.statement.Statement.{Statement}
use Rattle.plan.specs.declared.node.Node.{Node}
use Rattle.plan.specs.declared.node.Node.TheVariants as node
use Rattle.plan.specs.declared.node.Ends as declared
use Rattle.plan.specs.declared.node.Arc as declared_arc
use Rattle.refusals.specs.declared.refusal.Refusal.{Refusal}
use Rattle.plan.specs.declared.call.Call.{Call}
use Rattle.plan.specs.declared.call.Call.TheVariants.{Lay, Fork, Arc, Ends, Change}
use Rattle.plan.specs.Drawn.{Drawn, blank, node_at, region_of, width, branches, Lies, Joins, Sound}
use Rattle.plan.specs.Calls.{accepted, is_fork, no_region, no_node, outside, has_arc, kept_if, after, after_all, drawn}
use Rattle.plan.specs.Statements.{in_range}
use Rattle.plan.proofs.Nodes.{origin, branches-++, pushed, in_pushed, region_replaced, in_replaced, branches_replaced, branches_set, getD_copies, ends_more}

no_fork : (r f b k : ℕ) (st : Statement) → node.Step r st ≡ node.Fork f b k → ⊥
no_fork r f b k st e = let z : ◌≡◌ {A = ℕ} 0 1 = cc in omega arith

abbrev changed : Drawn → ℕ → Statement → Node
changed p n st = node.Step (region_of (node_at p n)) st

step_width : (x : Node) → is_fork x ≡ false → 0 ≡ width x
step_width (node.Step r st) e = refl
step_width (node.Fork r b k) e = absurd (true≢false e)

no_ends : (e : declared.Ends) → None ≡ Some e → ⊥
no_ends e is = let z : ◌≡◌ {A = ℕ} 0 1 = cc in omega arith

-- soundness goes by the three lists
pub sound_as : (p q : Drawn) → p.nodes ≡ q.nodes → p.arcs ≡ q.arcs → p.ends ≡ q.ends → Sound q → Sound p
sound_as p q n a e s = subst Sound (λ i. record { nodes = sym n i; arcs = sym a i; ends = sym e i }) s

pub blank_sound : Sound blank
blank_sound = record {
  counted = refl;
  placed = λ n h. absurd (omega arith);
  forked = λ n r b k h e. absurd (omega arith);
  joined = λ k h. absurd (omega arith);
  bounded = λ r e is. absurd (no_ends e (sym (getD_copies 1 r None) ∙ is));
}

module _ (p : Drawn) (s : Sound p) where
  -- arcs and ends stay where they lie when a node is added
  joins_pushed : (x : Node) (a : declared_arc.Arc) → Joins p a → Joins (record { nodes = p.nodes ++ (x ∷ []); arcs = p.arcs; ends = p.ends }) a
  joins_pushed x a j =
      let f = in_pushed p.nodes x origin _ _ (j.0, refl) in
      let t = in_pushed p.nodes x origin _ _ (j.1, refl) in
      (f.0, t.0, f.1 ∙ j.2 ∙ sym t.1)

  lies_pushed : (x : Node) (r : ℕ) (e : declared.Ends) → Lies p r e.first × Lies p r e.last
      → Lies (record { nodes = p.nodes ++ (x ∷ []); arcs = p.arcs; ends = p.ends }) r e.first × Lies (record { nodes = p.nodes ++ (x ∷ []); arcs = p.arcs; ends = p.ends }) r e.last
  lies_pushed x r e l = (in_pushed p.nodes x origin _ _ l.0, in_pushed p.nodes x origin _ _ l.1)

  placed_pushed : (x : Node) → region_of x < length p.ends → (n : ℕ) → n < length (p.nodes ++ (x ∷ [])) → region_of (get_or (p.nodes ++ (x ∷ [])) n origin) < suc (branches (take n (p.nodes ++ (x ∷ []))))
  placed_pushed x h = pushed (λ n y ns. region_of y < suc (branches ns)) p.nodes x origin s.placed (omega (arith, h, s.counted))

  forked_pushed : (x : Node) → ((r b k : ℕ) → x ≡ node.Fork r b k → b ≡ suc (branches p.nodes))
      → (n r b k : ℕ) → n < length (p.nodes ++ (x ∷ [])) → get_or (p.nodes ++ (x ∷ [])) n origin ≡ node.Fork r b k → b ≡ suc (branches (take n (p.nodes ++ (x ∷ []))))
  forked_pushed x new n r b k l =
      pushed (λ m y ns. (r b k : ℕ) → y ≡ node.Fork r b k → b ≡ suc (branches ns)) p.nodes x origin (λ m l r b k. s.forked m r b k l) new n l r b k

  pub lay_sound : (r : ℕ) (st : Statement) → r < length p.ends → Sound (accepted p (Lay r st))
  lay_sound r st h = record {
    counted = s.counted ∙ ap suc (sym (branches-++ p.nodes (node.Step r st ∷ []) ∙ add-zero _));
    placed = placed_pushed (node.Step r st) h;
    forked = forked_pushed (node.Step r st) (λ f b k e. absurd (no_fork r f b k st e));
    joined = λ k l. joins_pushed (node.Step r st) _ (s.joined k l);
    bounded = λ q e is. lies_pushed (node.Step r st) q e (s.bounded q e is);
  }

  pub fork_sound : (r k : ℕ) → r < length p.ends → Sound (accepted p (Fork r k))
  fork_sound r k h =
      let x : Node = node.Fork r (length p.ends) k in
      record {
        counted = length-append p.ends (replicate k None) ∙ simp length-replicate (omega (arith, s.counted, branches-++ p.nodes (x ∷ [])));
        placed = placed_pushed x h;
        forked = forked_pushed x (λ f b j e. (let same : b ≡ length p.ends = cc in same ∙ s.counted));
        joined = λ i l. joins_pushed x _ (s.joined i l);
        bounded = λ q e is. lies_pushed x q e (s.bounded q e (sym (ends_more p.ends k q) ∙ is));
      }

  pub arc_sound : (m n : ℕ) → Joins p (record { from = m; to = n }) → Sound (accepted p (Arc m n))
  arc_sound m n j = record {
    counted = s.counted;
    placed = s.placed;
    forked = s.forked;
    joined = pushed (λ k a as'. Joins p a) p.arcs (record { from = m; to = n }) (record { from = 0; to = 0 }) s.joined j;
    bounded = s.bounded;
  }

  pub ends_sound : (r f l : ℕ) → r < length p.ends → Lies p r f → Lies p r l → Sound (accepted p (Ends r f l))
  ends_sound r f l h first last = record {
    counted = simp length-set s.counted;
    placed = s.placed;
    forked = s.forked;
    joined = s.joined;
    bounded = λ q e is. go q e is (cases_eq q r);
  }
    where
      go : (q : ℕ) (e : declared.Ends) → get_or (set p.ends r (Some (record { first = f; last = l }))) q None ≡ Some e → ((q ≡ r) ⊎ (q ≡ r → ⊥)) → Lies p q e.first × Lies p q e.last
      go q e is (inl same) =
          let was = get_or-set_same p.ends r (Some (record { first = f; last = l })) None h in
          let new : record { first = f; last = l } ≡ e = cc in
          subst (λ (d : declared.Ends). Lies p q d.first × Lies p q d.last) new (subst (λ (i : ℕ). Lies p i f × Lies p i l) (sym same) (first, last))
      go q e is (inr other) = s.bounded q e (sym (get_or-set_other p.ends r q _ None other) ∙ is)

  pub change_sound : (n : ℕ) (st : Statement) → n < length p.nodes → is_fork (node_at p n) ≡ false → Sound (accepted p (Change n st))
  change_sound n st h plain = record {
    counted = s.counted ∙ ap suc (sym (branches_set p.nodes n (changed p n st) origin h narrow));
    placed = λ m l. subst₂ (λ (r b : ℕ). r < suc b) (sym (region_replaced p.nodes n (changed p n st) origin refl m (within m l))) (sym (branches_replaced p.nodes n (changed p n st) origin h narrow m)) (s.placed m (within m l));
    forked = λ m r b k l is. still m r b k (within m l) is (cases_eq m n);
    joined = λ k l. let j = s.joined k l in (
      simp length-set j.0,
      simp length-set j.1,
      region_replaced p.nodes n (changed p n st) origin refl _ j.0 ∙ j.2 ∙ sym (region_replaced p.nodes n (changed p n st) origin refl _ j.1),
    );
    bounded = λ r e is. let l = s.bounded r e is in (in_replaced p.nodes n (changed p n st) origin _ _ refl l.0, in_replaced p.nodes n (changed p n st) origin _ _ refl l.1);
  }
    where
      narrow : 0 ≡ width (node_at p n)
      narrow = step_width (node_at p n) plain

      within : (m : ℕ) → m < length (set p.nodes n (changed p n st)) → m < length p.nodes
      within m l = omega (arith, l, length-set p.nodes n (changed p n st))

      still : (m r b k : ℕ) → m < length p.nodes → get_or (set p.nodes n (changed p n st)) m origin ≡ node.Fork r b k → ((m ≡ n) ⊎ (m ≡ n → ⊥)) → b ≡ suc (branches (take m (set p.nodes n (changed p n st))))
      still m r b k l is (inl same) =
          absurd (no_fork (region_of (node_at p n)) r b k st (sym (get_or-set_same p.nodes n (changed p n st) origin h) ∙ ap (λ (i : ℕ). get_or (set p.nodes n (changed p n st)) i origin) (sym same) ∙ is))
      still m r b k l is (inr other) =
          s.forked m r b k l (sym (get_or-set_other p.nodes n m (changed p n st) origin other) ∙ is) ∙ ap suc (sym (branches_replaced p.nodes n (changed p n st) origin h narrow m))

-- a test that holds refuses the call, and the plan stays as it was
unless_refused : (p q : Drawn) (b : Bool) (e : Refusal) (o : Option Refusal) → Sound p → (b ≡ false → Sound (kept_if o p q)) → Sound (kept_if (cond b (Some e) o) p q)
unless_refused p q true e o s more = s
unless_refused p q false e o s more = more refl

pub after_sound : (p : Drawn) (c : Call) → Sound p → Sound (after p c)
after_sound p (Lay r st) s =
    unless_refused p _ (no_region p r) _ _ s (λ there.
    unless_refused p _ (not (in_range st)) _ _ s (λ range.
    unless_refused p _ (leb 256 (length p.nodes)) _ _ s (λ room. lay_sound p s r st (leb-false _ _ there))))
after_sound p (Fork r k) s =
    unless_refused p _ (no_region p r) _ _ s (λ there.
    unless_refused p _ (ltb k 2 || ltb 8 k) _ _ s (λ count.
    unless_refused p _ (leb 256 (length p.nodes) || ltb 64 (length p.ends + k)) _ _ s (λ room. fork_sound p s r k (leb-false _ _ there))))
after_sound p (Arc m n) s =
    unless_refused p _ (no_node p m || no_node p n) _ _ s (λ there.
    unless_refused p _ (outside p (region_of (node_at p m)) n) _ _ s (λ inside.
    unless_refused p _ (has_arc m n p.arcs) _ _ s (λ fresh.
    unless_refused p _ (leb 1024 (length p.arcs)) _ _ s (λ room.
    let both = or_parts _ _ there in
    arc_sound p s m n (leb-false _ _ both.0, leb-false _ _ both.1, sym (eqb-true _ _ (not-false _ inside)))))))
after_sound p (Ends r f l) s =
    unless_refused p _ (no_region p r || (no_node p f || no_node p l)) _ _ s (λ there.
    unless_refused p _ (outside p r f || outside p r l) _ _ s (λ inside.
    let all = or_parts _ _ there in
    let nodes = or_parts _ _ all.1 in
    let both = or_parts _ _ inside in
    ends_sound p s r f l (leb-false _ _ all.0) (leb-false _ _ nodes.0, eqb-true _ _ (not-false _ both.0)) (leb-false _ _ nodes.1, eqb-true _ _ (not-false _ both.1))))
after_sound p (Change n st) s =
    unless_refused p _ (no_node p n) _ _ s (λ there.
    unless_refused p _ (not (in_range st)) _ _ s (λ range.
    unless_refused p _ (is_fork (node_at p n)) _ _ s (λ step. change_sound p s n st (leb-false _ _ there) step)))

-- what every call keeps holds after any row of calls
pub after_all_keeps : (P : Drawn → Type 0) → ((p : Drawn) (c : Call) → P p → P (after p c)) → (p : Drawn) (cs : List Call) → P p → P (after_all p cs)
after_all_keeps P each p [] s = s
after_all_keeps P each p (c ∷ cs) s = after_all_keeps P each (after p c) cs (each p c s)

-- every row of calls draws a sound plan
pub drawn_sound : (cs : List Call) → Sound (drawn cs)
drawn_sound cs = after_all_keeps Sound after_sound blank cs blank_sound
