-- What the code of functions uses of what their group sees, the functions name.
use Rattle.std.proofs.Common.{◌≡◌, ℕ, zero, suc, ◌+◌, ◌*◌, ◌≤◌, refl, sym, ap, subst, List, [], ◌∷◌, ◌++◌, length, map, Option, Some, None, Bool, true, false, arith as arithmetic}
use Rattle.std.specs.Prelude.{◌||◌, cond, nat_eq, slice_get, slice_set}
use Rattle.std.proofs.lemmas.Bool.{eqb-true, eq-eqb}
use Rattle.core_ir.specs.declared.code.Operand.{Operand}
use Rattle.core_ir.specs.declared.code.Operand.TheVariants.{Slot, Captured, Member, Global, Constant}
use Rattle.core_ir.specs.declared.code.Way.{Way}
use Rattle.core_ir.specs.declared.code.Way.TheVariants.{Near, Far}
use Rattle.core_ir.specs.Choices.{nth}
use Rattle.core_ir.specs.Programs.{Group}
use Rattle.core_ir.specs.Expressions as core
use Rattle.core_ir.specs.Expressions.{Exp, Constant?, Name, Do, Functions, Try, Exps, NoExp, AnExp, Goal, Operate, Choose, Bind, Throw, Await, Break, Core}
use Rattle.core_ir.specs.Formed.{size_at, PaidCoreGroups}
use Rattle.core_ir.specs.Outward.{beyond, all_beyond, outward, outward_all, outward_goal, outward_bodies, outward_of, distinct}
use Rattle.core_ir.specs.Code as code
use Rattle.core_ir.specs.Code.{Code, Stop, Let, If, Match, Loop, Label, Branch, Leave, Pass, Make, Call, Tabulate, Send, Wait, Raise, Return}
use Rattle.core_laws.specs.Around.{Kind, way, target}
use Rattle.core_laws.specs.FormedSplits.{PaidUses}
use Rattle.core_laws.specs.Laws.{SplittingForms}
use Rattle.core_laws.specs.Slots.{name_at, operand, operands, place, count, first, others, slots_from, members_from, captured_from, into, move, jump}
use Rattle.core_laws.specs.Split.{Segments, Emitted, awaits, joint, labelled, looping, looped, catching, enclosed, code_or_stop, split_exp, split_all, split_goal, split_body, split_group, split_program}
use Rattle.core_laws.specs.Uses.{holds, with_use, use_operand, use_all, picked, uses, uses_segments, uses_bodies, needs_of}
use Rattle.core_laws.proofs.FormedCodes.{length_map, split_formed}
use Rattle.core_laws.proofs.FoundUses.{Within}
use Rattle.core_laws.proofs.Seen.{SeesOperand, SeesOperands, Sees, SeesSegments, SeesBodies}
use Rattle.core_laws.proofs.UsesCounted.{Distinct, no_longer, pushed_distinct, distinct_keeps}

-- ---- parts of lists

within_left : (xs ys ms : List ℕ) → Within (xs ++ ys) ms → Within xs ms
within_left [] ys ms w x h = absurd (let z : false ≡ true = h in cc)
within_left (z ∷ xs) ys ms w x h = by (nat_eq z x) refl h (within_left xs ys ms (λ y i. w y (skip (nat_eq z y) y i)) x)
  where
    skip : (b : Bool) (y : ℕ) → holds y (xs ++ ys) ≡ true → cond b true (holds y (xs ++ ys)) ≡ true
    skip true y i = refl
    skip false y i = i

    by : (b : Bool) → nat_eq z x ≡ b → cond b true (holds x xs) ≡ true → (holds x xs ≡ true → holds x ms ≡ true) → holds x ms ≡ true
    by true e i f = w x (ap (λ b. cond b true (holds x (xs ++ ys))) e)
    by false e i f = f i

within_right : (xs ys ms : List ℕ) → Within (xs ++ ys) ms → Within ys ms
within_right [] ys ms w = w
within_right (z ∷ xs) ys ms w = within_right xs ys ms (λ y i. w y (skip (nat_eq z y) y i))
  where
    skip : (b : Bool) (y : ℕ) → holds y (xs ++ ys) ≡ true → cond b true (holds y (xs ++ ys)) ≡ true
    skip true y i = refl
    skip false y i = i

-- of a place of the list, its name is among those beyond
beyond_of : (n x : ℕ) (ks ms : List ℕ) → holds x ks ≡ true → Within (all_beyond n ks) ms → Within (beyond n x) ms
beyond_of n x [] ms h w = absurd (let z : false ≡ true = h in cc)
beyond_of n x (k ∷ ks) ms h w = by (nat_eq k x) refl h (λ i. beyond_of n x ks ms i (within_right (beyond n k) (all_beyond n ks) ms w))
  where
    by : (b : Bool) → nat_eq k x ≡ b → cond b true (holds x ks) ≡ true → (holds x ks ≡ true → Within (beyond n x) ms) → Within (beyond n x) ms
    by true e i f = subst (λ y. Within (beyond n y) ms) (eqb-true k x e) (within_left (beyond n k) (all_beyond n ks) ms w)
    by false e i f = f i

-- ---- code; names tells which of the values that its group sees the source names, and needs what groups before it use

module _ (needs : List (List ℕ)) (names : List ℕ) where
  abbrev Ok : Operand → Type 0
  Ok x = SeesOperand needs names x

  abbrev AllOk : List Operand → Type 0
  AllOk xs = SeesOperands needs names xs

  abbrev Fine : Code → Type 0
  Fine c = Sees needs names c

  abbrev Kept : Option Code → Type 0
  Kept None = Unit {0}
  Kept (Some c) = Fine c

  abbrev Segs : Segments → Type 0
  Segs [] = Unit {0}
  Segs (o ∷ s) = Kept o × Segs s

  push : (s : Segments) (o : Option Code) → Segs s → Kept o → Segs (s ++ o ∷ [])
  push [] o h i = (i, tt)
  push (x ∷ s) o h i = (h.0, push s o (h.1) i)

  set : (s : Segments) (j : ℕ) (o : Option Code) → Segs s → Kept o → Segs (slice_set s j o)
  set [] j o h i = tt
  set (x ∷ s) zero o h i = (i, h.1)
  set (x ∷ s) (suc j) o h i = (h.0, set s j o (h.1) i)

  -- the names in scope, of which the nearest, so many, are not those that the group sees
  abbrev Scope : ℕ → List Operand → Type 0
  Scope n ns = (x : ℕ) → Within (beyond n x) names → Ok (name_at ns x)

  inner : (n : ℕ) (ns : List Operand) (a : Operand) → Ok a → Scope n ns → Scope (suc n) (a ∷ ns)
  inner n ns a h f zero w = h
  inner n ns a h f (suc x) w = f x w

  inner_slots : (h k n : ℕ) (ns : List Operand) → Scope n ns → Scope (k + n) (slots_from h k ++ ns)
  inner_slots h zero n ns f = subst (λ m. Scope m ns) (let z : n ≡ 0 + n = omega arithmetic in z) f
  inner_slots h (suc k) n ns f = subst (λ m. Scope m (Slot h ∷ (slots_from (suc h) k ++ ns))) (let z : suc (k + n) ≡ suc k + n = omega arithmetic in z) (inner (k + n) (slots_from (suc h) k ++ ns) (Slot h) tt (inner_slots (suc h) k n ns f))

  operand_ok : (n : ℕ) (ns : List Operand) (sizes : ℕ → ℕ) (core_needs : List (List ℕ)) (e : Exp) (h : ℕ) → Scope n ns → Within (outward sizes core_needs n e) names → Ok (operand ns e h)
  operand_ok n ns sizes core_needs (Constant? k) h f w = tt
  operand_ok n ns sizes core_needs (Name x) h f w = f x w
  operand_ok n ns sizes core_needs (core.Global g) h f w = tt
  operand_ok n ns sizes core_needs (Do goal es) h f w = tt
  operand_ok n ns sizes core_needs (Functions k b) h f w = tt
  operand_ok n ns sizes core_needs (core.Loop b) h f w = tt
  operand_ok n ns sizes core_needs (core.Label b) h f w = tt
  operand_ok n ns sizes core_needs (Try a b) h f w = tt

  operands_ok : (n : ℕ) (ns : List Operand) (sizes : ℕ → ℕ) (core_needs : List (List ℕ)) (es : Exps) (h : ℕ) → Scope n ns → Within (outward_all sizes core_needs n es) names → AllOk (operands ns es h)
  operands_ok n ns sizes core_needs NoExp h f w = tt
  operands_ok n ns sizes core_needs (AnExp e es) h f w = (
    operand_ok n ns sizes core_needs e h f (within_left (outward sizes core_needs n e) (outward_all sizes core_needs n es) names w),
    operands_ok n ns sizes core_needs es (suc h) f (within_right (outward sizes core_needs n e) (outward_all sizes core_needs n es) names w),
  )

  first_ok : (xs : List Operand) → AllOk xs → Ok (first xs)
  first_ok [] h = tt
  first_ok (x ∷ xs) h = h.0

  others_ok : (xs : List Operand) → AllOk xs → AllOk (others xs)
  others_ok [] h = tt
  others_ok (x ∷ xs) h = h.1

  into_ok : (t : ℕ) (a : Operand) (c : Code) → Ok a → Fine c → Fine (into t a c)
  into_ok t a (Leave j) h i = h
  into_ok t a c h i = ((h, tt), i)

  move_ok : (t : Option ℕ) (a : Operand) (c : Code) → Ok a → Fine c → Fine (move t a c)
  move_ok None a c h i = i
  move_ok (Some t) a c h i = into_ok t a c h i

  jump_ok : (w : Way) → Fine (jump w)
  jump_ok (Near n) = tt
  jump_ok (Far j) = tt

  picked_ok : (n : ℕ) (ns : List Operand) (ks : List ℕ) → Scope n ns → ((x : ℕ) → holds x ks ≡ true → Within (beyond n x) names) → AllOk (picked ns ks)
  picked_ok n ns [] f w = tt
  picked_ok n ns (k ∷ ks) f w = (f k (w k (ap (λ b. cond b true (holds k ks)) (eq-eqb k k refl))), picked_ok n ns ks f (λ x h. w x (skip (nat_eq k x) x h)))
    where
      skip : (b : Bool) (x : ℕ) → holds x ks ≡ true → cond b true (holds x ks) ≡ true
      skip true x h = refl
      skip false x h = h

  abbrev Made : Emitted → Type 0
  Made r = Fine r.code × Segs r.segments

  joint_ok : (b : Bool) (ls : List Kind) (c : Code) (s : Segments) → Fine c → Segs s → Fine (joint b ls c s).next × Fine (joint b ls c s).after × Segs (joint b ls c s).segments
  joint_ok false ls c s h i = (tt, h, i)
  joint_ok true ls c s h i = (tt, tt, push s (Some c) i h)

  labelled_ok : (b : Bool) (t : Option ℕ) (ls : List Kind) (c : Code) (s : Segments) → Fine c → Segs s → Fine (labelled b t ls c s).next × Segs (labelled b t ls c s).segments
  labelled_ok false t ls c s h i = (tt, i)
  labelled_ok true t ls c s h i = (tt, push s (Some c) i h)

  looping_ok : (b : Bool) (ls : List Kind) (s : Segments) → Segs s → Fine (looping b ls s).next × Segs (looping b ls s).segments
  looping_ok false ls s i = (tt, i)
  looping_ok true ls s i = (tt, push s None i tt)

  looped_ok : (b : Bool) (m c : Code) (j : ℕ) (s : Segments) → Fine m → Fine c → Segs s → Made (looped b m c j s)
  looped_ok false m c j s h i k = ((h, i), k)
  looped_ok true m c j s h i k = (tt, set s j (Some m) k h)

  catching_ok : (b : Bool) (h : ℕ) (ls : List Kind) (next m : Code) (s : Segments) → Fine next → Fine m → Segs s → Fine (catching b h ls next m s).next × Segs (catching b h ls next m s).segments
  catching_ok false h ls next m s f g i = (tt, i)
  catching_ok true h ls next m s f g i = (f, push s (Some m) i g)

  enclosed_ok : (b : Bool) (m c : Code) → Fine m → Fine c → Fine (enclosed b m c)
  enclosed_ok false m c h i = (h, i)
  enclosed_ok true m c h i = h

  module _ (sizes : ℕ → ℕ) (core_needs : List (List ℕ)) (fewer : (k : ℕ) → Within (nth [] needs k) (nth [] core_needs k)) where
    abbrev In : List ℕ → Type 0
    In xs = Within xs names

    mutual
      exp_uses : (e : Exp) (n : ℕ) (t : Option ℕ) (h : ℕ) (ns : List Operand) (ls : List Kind) (c : Code) (s : Segments) → In (outward sizes core_needs n e) → Scope n ns → Fine c → Segs s → Made (split_exp sizes e t h ns ls c s)
      exp_uses (Constant? k) n t h ns ls c s w f hc hs = (move_ok t (Constant k) c tt hc, hs)
      exp_uses (Name x) n t h ns ls c s w f hc hs = (move_ok t (name_at ns x) c (f x w) hc, hs)
      exp_uses (core.Global i) n t h ns ls c s w f hc hs = (move_ok t (Global i) c tt hc, hs)
      exp_uses (Do goal es) n t h ns ls c s w f hc hs =
          let wg = within_left (outward_goal sizes core_needs n goal) (outward_all sizes core_needs n es) names w in
          let we = within_right (outward_goal sizes core_needs n goal) (outward_all sizes core_needs n es) names w in
          let r = split_goal sizes goal (operands ns es h) t (h + count es) ns ls c s in
          let x = goal_uses goal n (operands ns es h) t (h + count es) ns ls c s wg (operands_ok n ns sizes core_needs es h f we) f hc hs in
          all_uses es n h ns ls r.code r.segments we f (x.0) (x.1)
      exp_uses (Functions k b) n t h ns ls c s w f hc hs =
          let wk = within_left (all_beyond n (nth [] core_needs k)) (outward sizes core_needs (sizes k + n) b) names w in
          let wb = within_right (all_beyond n (nth [] core_needs k)) (outward sizes core_needs (sizes k + n) b) names w in
          let x = exp_uses b (sizes k + n) t (h + sizes k) (slots_from h (sizes k) ++ ns) ls c s wb (inner_slots h (sizes k) n ns f) hc hs in
          ((picked_ok n ns (nth [] needs k) f (λ y i. beyond_of n y (nth [] core_needs k) names (fewer k y i) wk), x.0), x.1)
      exp_uses (core.Loop b) n t h ns ls c s w f hc hs =
          let q = looping (awaits b) ls s in
          let r = split_exp sizes b None h ns q.around q.next q.segments in
          let i = looping_ok (awaits b) ls s hs in
          let x = exp_uses b n None h ns q.around q.next q.segments w f (i.0) (i.1) in
          looped_ok (awaits b) r.code c (length s) r.segments (x.0) hc (x.1)
      exp_uses (core.Label b) n t h ns ls c s w f hc hs =
          let q = labelled (awaits b) t ls c s in
          let r = split_exp sizes b t h ns q.around q.next q.segments in
          let i = labelled_ok (awaits b) t ls c s hc hs in
          let x = exp_uses b n t h ns q.around q.next q.segments w f (i.0) (i.1) in
          (enclosed_ok (awaits b) r.code c (x.0) hc, x.1)
      exp_uses (Try a b) n t h ns ls c s w f hc hs =
          let wa = within_left (outward sizes core_needs n a) (outward sizes core_needs (suc n) b) names w in
          let wb = within_right (outward sizes core_needs n a) (outward sizes core_needs (suc n) b) names w in
          let z = awaits a || awaits b in
          let q = joint z ls c s in
          let r = split_exp sizes b t (suc h) (Slot h ∷ ns) q.around q.next q.segments in
          let p = catching z h ls q.next r.code r.segments in
          let u = split_exp sizes a t (suc h) ns p.around p.next p.segments in
          let i = joint_ok z ls c s hc hs in
          let x = exp_uses b (suc n) t (suc h) (Slot h ∷ ns) q.around q.next q.segments wb (inner n ns (Slot h) tt f) (i.0) (i.2) in
          let j = catching_ok z h ls q.next r.code r.segments (i.0) (x.0) (x.1) in
          let y = exp_uses a n t (suc h) ns p.around p.next p.segments wa f (j.0) (j.1) in
          (enclosed_ok z (enclosed z u.code r.code) c (enclosed_ok z u.code r.code (y.0) (x.0)) hc, y.1)

      all_uses : (es : Exps) (n h : ℕ) (ns : List Operand) (ls : List Kind) (c : Code) (s : Segments) → In (outward_all sizes core_needs n es) → Scope n ns → Fine c → Segs s → Made (split_all sizes es h ns ls c s)
      all_uses NoExp n h ns ls c s w f hc hs = (hc, hs)
      all_uses (AnExp e es) n h ns ls c s w f hc hs =
          let r = split_all sizes es (suc h) ns ls c s in
          let x = all_uses es n (suc h) ns ls c s (within_right (outward sizes core_needs n e) (outward_all sizes core_needs n es) names w) f hc hs in
          exp_uses e n (place e h) (suc h) ns ls r.code r.segments (within_left (outward sizes core_needs n e) (outward_all sizes core_needs n es) names w) f (x.0) (x.1)

      goal_uses : (g : Goal) (n : ℕ) (xs : List Operand) (t : Option ℕ) (h : ℕ) (ns : List Operand) (ls : List Kind) (c : Code) (s : Segments) → In (outward_goal sizes core_needs n g) → AllOk xs → Scope n ns → Fine c → Segs s → Made (split_goal sizes g xs t h ns ls c s)
      goal_uses (Operate p) n xs t h ns ls c s w hx f hc hs = ((hx, hc), hs)
      goal_uses (Choose p a b) n xs t h ns ls c s w hx f hc hs =
          let z = awaits a || awaits b in
          let q = joint z ls c s in
          let r = split_exp sizes a t h ns q.around q.next q.segments in
          let i = joint_ok z ls c s hc hs in
          let x = exp_uses a n t h ns q.around q.next q.segments (within_left (outward sizes core_needs n a) (outward sizes core_needs n b) names w) f (i.0) (i.2) in
          let y = exp_uses b n t h ns q.around q.next r.segments (within_right (outward sizes core_needs n a) (outward sizes core_needs n b) names w) f (i.0) (x.1) in
          ((hx, x.0, y.0, i.1), y.1)
      goal_uses (core.Match k a b) n xs t h ns ls c s w hx f hc hs =
          let z = awaits a || awaits b in
          let q = joint z ls c s in
          let r = split_exp sizes a t (suc h) (Slot h ∷ ns) q.around q.next q.segments in
          let i = joint_ok z ls c s hc hs in
          let x = exp_uses a (suc n) t (suc h) (Slot h ∷ ns) q.around q.next q.segments (within_left (outward sizes core_needs (suc n) a) (outward sizes core_needs n b) names w) (inner n ns (Slot h) tt f) (i.0) (i.2) in
          let y = exp_uses b n t (suc h) ns q.around q.next r.segments (within_right (outward sizes core_needs (suc n) a) (outward sizes core_needs n b) names w) f (i.0) (x.1) in
          ((first_ok xs hx, x.0, y.0, i.1), y.1)
      goal_uses (Bind b) n xs t h ns ls c s w hx f hc hs = exp_uses b (suc n) t h (first xs ∷ ns) ls c s w (inner n ns (first xs) (first_ok xs hx) f) hc hs
      goal_uses core.Call n xs t h ns ls c s w hx f hc hs = ((first_ok xs hx, others_ok xs hx, hc), hs)
      goal_uses core.Tabulate n xs t h ns ls c s w hx f hc hs = ((first_ok xs hx, first_ok (others xs) (others_ok xs hx), hc), hs)
      goal_uses (core.Send g) n xs t h ns ls c s w hx f hc hs = ((first_ok xs hx, others_ok xs hx, hc), hs)
      goal_uses Throw n xs t h ns ls c s w hx f hc hs = (first_ok xs hx, hs)
      goal_uses Await n xs t h ns ls c s w hx f hc hs = (first_ok xs hx, push s (Some c) hs hc)
      goal_uses (Break l) n xs t h ns ls c s w hx f hc hs = (move_ok (target ls l) (first xs) (jump (way ls l)) (first_ok xs hx) (jump_ok (way ls l)), hs)
      goal_uses core.Return n xs t h ns ls c s w hx f hc hs = (first_ok xs hx, hs)

    stop_ok : (s : Segments) → Segs s → SeesSegments needs names (map code_or_stop s)
    stop_ok [] h = tt
    stop_ok (None ∷ s) h = (tt, stop_ok s (h.1))
    stop_ok (Some c ∷ s) h = (h.0, stop_ok s (h.1))

    -- the outermost names
    captured_scope : (k sees : ℕ) → (x : ℕ) → Within ((k + x) ∷ []) names → Ok (name_at (captured_from k sees) x)
    captured_scope k zero x w = tt
    captured_scope k (suc sees) zero w = w k (ap (λ b. cond b true false) (eq-eqb (k + 0) k (omega arithmetic)))
    captured_scope k (suc sees) (suc x) w = captured_scope (suc k) sees x (subst (λ m. Within (m ∷ []) names) (let z : k + suc x ≡ suc k + x = omega arithmetic in z) w)

    outermost : (sees : ℕ) → Scope 0 (captured_from 0 sees)
    outermost sees x w = captured_scope 0 sees x (subst (λ m. Within (m ∷ []) names) (let z : x ≡ 0 + x = omega arithmetic in z) w)

    members_scope : (m k n : ℕ) (ns : List Operand) → Scope n ns → Scope (k + n) (members_from m k ++ ns)
    members_scope m zero n ns f = subst (λ m. Scope m ns) (let z : n ≡ 0 + n = omega arithmetic in z) f
    members_scope m (suc k) n ns f = subst (λ x. Scope x (Member m ∷ (members_from (suc m) k ++ ns))) (let z : suc (k + n) ≡ suc k + n = omega arithmetic in z) (inner (k + n) (members_from (suc m) k ++ ns) (Member m) tt (members_scope (suc m) k n ns f))

    body_uses : (size sees : ℕ) (b : core.Body) → In (outward sizes core_needs (b.parameters + size) b.expression) → SeesSegments needs names (split_body sizes size sees b).segments
    body_uses size sees b w =
        let ns = slots_from 0 b.parameters ++ (members_from 0 size ++ captured_from 0 sees) in
        let xs = operands ns (AnExp b.expression NoExp) b.parameters in
        let r = split_all sizes (AnExp b.expression NoExp) b.parameters ns [] (Return (first xs)) (None ∷ []) in
        let n = b.parameters + (size + 0) in
        let f : Scope n ns = inner_slots 0 b.parameters (size + 0) (members_from 0 size ++ captured_from 0 sees) (members_scope 0 size 0 (captured_from 0 sees) (outermost sees)) in
        let w0 : In (outward sizes core_needs n b.expression) = subst (λ n. In (outward sizes core_needs n b.expression)) (let z : b.parameters + size ≡ n = omega arithmetic in z) w in
        let w1 : In (outward_all sizes core_needs n (AnExp b.expression NoExp)) = append_none (outward sizes core_needs n b.expression) w0 in
        let x = all_uses (AnExp b.expression NoExp) n b.parameters ns [] (Return (first xs)) (None ∷ []) w1 f (first_ok xs (operands_ok n ns sizes core_needs (AnExp b.expression NoExp) b.parameters f w1)) (tt, tt) in
        stop_ok (slice_set r.segments 0 (Some r.code)) (set r.segments 0 (Some r.code) (x.1) (x.0))
      where
        append_none : (xs : List ℕ) → In xs → In (xs ++ [])
        append_none [] w = w
        append_none (y ∷ xs) w = subst (λ ys. In (y ∷ ys)) (sym (none_more xs)) w
          where
            none_more : (xs : List ℕ) → xs ++ [] ≡ xs
            none_more [] = refl
            none_more (x ∷ xs) = ap (λ ys. x ∷ ys) (none_more xs)

    bodies_use : (size sees : ℕ) (bs : List core.Body) → In (outward_bodies sizes core_needs size bs) → SeesBodies needs names (map (split_body sizes size sees) bs)
    bodies_use size sees [] w = tt
    bodies_use size sees (b ∷ bs) w = (
      body_uses size sees b (within_left (outward sizes core_needs (b.parameters + size) b.expression) (outward_bodies sizes core_needs size bs) names w),
      bodies_use size sees bs (within_right (outward sizes core_needs (b.parameters + size) b.expression) (outward_bodies sizes core_needs size bs) names w),
    )

  -- ---- what is found is distinct, and within

  abbrev Good : List ℕ → Type 0
  Good used = Distinct used × Within used names

  with_good : (x : ℕ) (used : List ℕ) → holds x names ≡ true → Good used → Good (with_use x used)
  with_good x used h g = by (holds x used) refl
    where
      more : (ys : List ℕ) → Within ys names → Within (ys ++ x ∷ []) names
      more [] w y i = at (nat_eq x y) refl i
        where
          at : (b : Bool) → nat_eq x y ≡ b → cond b true false ≡ true → holds y names ≡ true
          at true e i = subst (λ n. holds n names ≡ true) (eqb-true x y e) h
          at false e i = absurd (let z : false ≡ true = i in cc)
      more (z ∷ ys) w y i = at (nat_eq z y) refl i (more ys (λ v j. w v (skip (nat_eq z v) v j)) y)
        where
          skip : (b : Bool) (v : ℕ) → holds v ys ≡ true → cond b true (holds v ys) ≡ true
          skip true v j = refl
          skip false v j = j

          at : (b : Bool) → nat_eq z y ≡ b → cond b true (holds y (ys ++ x ∷ [])) ≡ true → (holds y (ys ++ x ∷ []) ≡ true → holds y names ≡ true) → holds y names ≡ true
          at true e i f = w y (ap (λ b. cond b true (holds y ys)) e)
          at false e i f = f i

      by : (b : Bool) → holds x used ≡ b → Good (cond b used (used ++ x ∷ []))
      by true e = g
      by false e = (pushed_distinct x used e (g.0), more used (g.1))

  one_good : (x : Operand) (used : List ℕ) → Ok x → Good used → Good (use_operand x used)
  one_good (Slot x) used h g = g
  one_good (Captured x) used h g = with_good x used h g
  one_good (Member m) used h g = g
  one_good (Global i) used h g = g
  one_good (Constant k) used h g = g

  all_good : (xs : List Operand) (used : List ℕ) → AllOk xs → Good used → Good (use_all xs used)
  all_good [] used h g = g
  all_good (x ∷ xs) used h g = all_good xs (use_operand x used) (h.1) (one_good x used (h.0) g)

  code_good : (c : Code) (used : List ℕ) → Fine c → Good used → Good (uses needs c used)
  code_good Stop used h g = g
  code_good (Let t p xs c) used h g = code_good c (use_all xs used) (h.1) (all_good xs used (h.0) g)
  code_good (If p xs y n c) used h g =
      let a = all_good xs used (h.0) g in
      let b = code_good y (use_all xs used) (h.1) a in
      code_good c (uses needs n (uses needs y (use_all xs used))) (h.3) (code_good n (uses needs y (use_all xs used)) (h.2) b)
  code_good (Match t k x y n c) used h g =
      let a = one_good x used (h.0) g in
      let b = code_good y (use_operand x used) (h.1) a in
      code_good c (uses needs n (uses needs y (use_operand x used))) (h.3) (code_good n (uses needs y (use_operand x used)) (h.2) b)
  code_good (Loop b c) used h g = code_good c (uses needs b used) (h.1) (code_good b used (h.0) g)
  code_good (Label b c) used h g = code_good c (uses needs b used) (h.1) (code_good b used (h.0) g)
  code_good (Branch l) used h g = g
  code_good (Leave j) used h g = g
  code_good (Pass t x j) used h g = one_good x used h g
  code_good (Make t seen k c) used h g = code_good c (use_all (picked seen (nth [] needs k)) used) (h.1) (all_good (picked seen (nth [] needs k)) used (h.0) g)
  code_good (Call t f xs c) used h g = code_good c (use_all xs (use_operand f used)) (h.2) (all_good xs (use_operand f used) (h.1) (one_good f used (h.0) g))
  code_good (Tabulate t n f c) used h g = code_good c (use_operand f (use_operand n used)) (h.2) (one_good f (use_operand n used) (h.1) (one_good n used (h.0) g))
  code_good (Send t s f xs k c) used h g = code_good c (use_all xs (use_operand f used)) (h.2) (all_good xs (use_operand f used) (h.1) (one_good f used (h.0) g))
  code_good (Wait t x k j) used h g = one_good x used h g
  code_good (Raise x k) used h g = one_good x used h g
  code_good (Return x) used h g = one_good x used h g

  segments_good : (cs : List Code) (used : List ℕ) → SeesSegments needs names cs → Good used → Good (uses_segments needs cs used)
  segments_good [] used h g = g
  segments_good (c ∷ cs) used h g = segments_good cs (uses needs c used) (h.1) (code_good c used (h.0) g)

  bodies_good : (bs : List code.Body) (used : List ℕ) → SeesBodies needs names bs → Good used → Good (uses_bodies needs bs used)
  bodies_good [] used h g = g
  bodies_good (b ∷ bs) used h g = bodies_good bs (uses_segments needs b.segments used) (h.1) (segments_good b.segments used (h.0) g)

-- ---- groups

abbrev Fits : List ℕ → List ℕ → Type 0
Fits used named = Distinct used × Within used named

none_fits : (named : List ℕ) → Fits [] named
none_fits named = (tt, λ x h. absurd (let z : false ≡ true = h in cc))

pushed_fits : (us ns : List (List ℕ)) (u n : List ℕ) → length us ≡ length ns → ((k : ℕ) → Fits (nth [] us k) (nth [] ns k)) → Fits u n → (k : ℕ) → Fits (nth [] (us ++ u ∷ []) k) (nth [] (ns ++ n ∷ []) k)
pushed_fits [] [] u n e f g zero = g
pushed_fits [] [] u n e f g (suc k) = none_fits []
pushed_fits [] (y ∷ ns) u n e f g k = absurd (omega (arithmetic, e))
pushed_fits (x ∷ us) [] u n e f g k = absurd (omega (arithmetic, e))
pushed_fits (x ∷ us) (y ∷ ns) u n e f g zero = f 0
pushed_fits (x ∷ us) (y ∷ ns) u n e f g (suc k) = pushed_fits us ns u n (omega (arithmetic, e)) (λ k. f (suc k)) g k

pushed_length : (us : List (List ℕ)) (u : List ℕ) → length (us ++ u ∷ []) ≡ suc (length us)
pushed_length [] u = refl
pushed_length (x ∷ us) u = ap suc (pushed_length us u)

module _ (sizes : ℕ → ℕ) where
  groups_fit : (gs : List (Group core.Body)) (us ns : List (List ℕ)) → length us ≡ length ns → ((k : ℕ) → Fits (nth [] us k) (nth [] ns k))
      → (k : ℕ) → Fits (nth [] (needs_of us (map (split_group sizes) gs)) k) (nth [] (outward_of sizes ns gs) k)
  groups_fit [] us ns e f k = f k
  groups_fit (g ∷ gs) us ns e f k =
      let named = outward_bodies sizes ns (length g.bodies) g.bodies in
      let bodies = map (split_body sizes (length g.bodies) g.sees) g.bodies in
      let used = uses_bodies us bodies [] in
      let one : Fits used named = bodies_good us named bodies [] (bodies_use us named sizes ns (λ k. (f k).1) (length g.bodies) g.sees g.bodies (λ x h. h)) (none_fits named) in
      let a = pushed_length us used in let b = pushed_length ns named in
      groups_fit gs (us ++ used ∷ []) (ns ++ named ∷ []) (omega (arithmetic, a, b, e)) (pushed_fits us ns used named e f one) k

-- what a group pays, by its number
paid_core : (ns : List (List ℕ)) (own : ℕ) (p : Core) (gs : List (Group core.Body)) → PaidCoreGroups own p ns gs → (k : ℕ) (g : Group core.Body) → slice_get gs k ≡ Some g
    → 2 * length g.bodies + length (distinct (nth [] ns k)) ≤ 4 * (1 + core.nodes_of g.bodies)
paid_core ns own p [] h k g e = absurd (let z : None ≡ Some g = e in cc)
paid_core [] own p (x ∷ gs) h zero g e = let a = h.0 in subst (λ (g : Group core.Body). 2 * length g.bodies + 0 ≤ 4 * (1 + core.nodes_of g.bodies)) (let z : x ≡ g = cc in z) (omega (arithmetic, a))
paid_core [] own p (x ∷ gs) h (suc k) g e = paid_core [] own p gs (h.1) k g e
paid_core (n ∷ ns) own p (x ∷ gs) h zero g e = subst (λ (g : Group core.Body). 2 * length g.bodies + length (distinct n) ≤ 4 * (1 + core.nodes_of g.bodies)) (let z : x ≡ g = cc in z) (h.0)
paid_core (n ∷ ns) own p (x ∷ gs) h (suc k) g e = paid_core ns own p gs (h.1) k g e

nodes_kept : (sizes : ℕ → ℕ) (m sees : ℕ) (bs : List core.Body) → code.nodes_of (map (split_body sizes m sees) bs) ≡ core.nodes_of bs
nodes_kept sizes m sees [] = refl
nodes_kept sizes m sees (b ∷ bs) = let r = nodes_kept sizes m sees bs in cc

paid_split : (sizes : ℕ → ℕ) (us : List (List ℕ)) (gs : List (Group core.Body))
    → ((k : ℕ) (g : Group core.Body) → slice_get gs k ≡ Some g → 2 * length g.bodies + length (nth [] us k) ≤ 4 * (1 + core.nodes_of g.bodies)) → PaidUses us (map (split_group sizes) gs)
paid_split sizes us [] h = tt
paid_split sizes [] (g ∷ gs) h =
    let a = length_map (split_body sizes (length g.bodies) g.sees) g.bodies in let b = nodes_kept sizes (length g.bodies) g.sees g.bodies in let c = h 0 g refl in
    ((let z : 2 * length (map (split_body sizes (length g.bodies) g.sees) g.bodies) ≤ 4 * (1 + code.nodes_of (map (split_body sizes (length g.bodies) g.sees) g.bodies)) = omega (arithmetic, a, b, c) in z), paid_split sizes [] gs (λ k x e. h (suc k) x e))
paid_split sizes (u ∷ us) (g ∷ gs) h =
    let a = length_map (split_body sizes (length g.bodies) g.sees) g.bodies in let b = nodes_kept sizes (length g.bodies) g.sees g.bodies in let c = h 0 g refl in
    ((let z : 2 * length (map (split_body sizes (length g.bodies) g.sees) g.bodies) + length u ≤ 4 * (1 + code.nodes_of (map (split_body sizes (length g.bodies) g.sees) g.bodies)) = omega (arithmetic, a, b, c) in z), paid_split sizes us gs (λ k x e. h (suc k) x e))

pub splitting_forms : SplittingForms
splitting_forms own p h =
    let sizes = size_at p.groups in
    let fit = groups_fit sizes p.groups [] [] refl (λ k. none_fits []) in
    record {
      code = split_formed own p h;
      paid = paid_split sizes (needs_of [] (split_program p).groups) p.groups (λ k g e.
          let a = paid_core (outward_of sizes [] p.groups) own p p.groups h.paid k g e in
          let f = fit k in
          let ms = nth [] (outward_of sizes [] p.groups) k in
          let b = no_longer (nth [] (needs_of [] (split_program p).groups) k) (distinct ms) (f.0) (λ x i. distinct_keeps x ms (f.1 x i)) in
          omega (arithmetic, a, b));
    }
