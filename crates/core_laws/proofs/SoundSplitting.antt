-- The code that splitting makes computes its expression, whatever segments are added later.
use Rattle.std.proofs.Common.{◌≡◌, ℕ, zero, suc, ◌+◌, inl, inr, refl, sym, ap, ◌∙◌, List, [], ◌∷◌, ◌++◌, length, Option, Some, None, Bool, true, false}
use Rattle.std.specs.Prelude.{◌||◌, slice_get, slice_set}
use Rattle.core_ir.specs.declared.code.Operand.{Operand}
use Rattle.core_ir.specs.declared.code.Operand.TheVariants.{Slot}
use Rattle.core_ir.specs.declared.code.Way.{Way}
use Rattle.core_ir.specs.declared.code.Way.TheVariants.{Near, Far}
use Rattle.core_ir.specs.Expressions as exp
use Rattle.core_ir.specs.Expressions.{Exp, Constant?, Name, Do, Exps, NoExp, AnExp, Goal, Core}
use Rattle.core_ir.specs.Code.{Code, Stop, If, Match, Branch, Leave}
use Rattle.core_laws.specs.Around.{Kind, Other, LabelHere, LabelAt, HandlerHere, HandlerAt, way, target, out_by, AllFar}
use Rattle.core_laws.specs.Slots.{operands, place, count, slots_from}
use Rattle.core_laws.specs.Splits.{Splits, SplitsAll, SplitsGoal}
use Rattle.core_ir.specs.Expressions.{Functions, Try, Operate, Choose, Bind, Throw, Await, Break}
use Rattle.core_laws.specs.Slots.{move, into, jump, first}
use Rattle.core_laws.specs.Split.{Segments, Emitted, awaits, awaits_all, awaits_goal, joint, labelled, looping, looped, catching, enclosed, split_exp, split_all, split_goal}
use Rattle.core_laws.specs.Splits.{Here}

-- what stands in the one stands in the other
abbrev pub Pre : Segments → Segments → Type 0
Pre s t = (j : ℕ) (o : Option Code) → slice_get s j ≡ Some o → slice_get t j ≡ Some o

pre_add : (s : Segments) (x : Option Code) → Pre s (s ++ x ∷ [])
pre_add [] x j o e = absurd (let y : None ≡ Some o = e in cc)
pre_add (y ∷ s) x zero o e = e
pre_add (y ∷ s) x (suc j) o e = pre_add s x j o e

pub pre_trans : (s t u : Segments) → Pre s t → Pre t u → Pre s u
pre_trans s t u f g j o e = g j o (f j o e)

at_end : (s : Segments) (x : Option Code) → slice_get (s ++ x ∷ []) (length s) ≡ Some x
at_end [] x = refl
at_end (y ∷ s) x = at_end s x

past : (s : Segments) → slice_get s (length s) ≡ None
past [] = refl
past (y ∷ s) = past s

pub set_same : (t : Segments) (i : ℕ) (x y : Option Code) → slice_get t i ≡ Some x → slice_get (slice_set t i y) i ≡ Some y
set_same [] i x y e = absurd (let z : None ≡ Some x = e in cc)
set_same (z ∷ t) zero x y e = refl
set_same (z ∷ t) (suc i) x y e = set_same t i x y e

pub set_other : (t : Segments) (i j : ℕ) (y : Option Code) → (j ≡ i → ⊥) → slice_get (slice_set t i y) j ≡ slice_get t j
set_other [] i j y h = refl
set_other (z ∷ t) zero zero y h = absurd (h refl)
set_other (z ∷ t) zero (suc j) y h = refl
set_other (z ∷ t) (suc i) zero y h = refl
set_other (z ∷ t) (suc i) (suc j) y h = set_other t i j y (λ e. h (ap suc e))

not_past : (s : Segments) (j : ℕ) (o : Option Code) → slice_get s j ≡ Some o → j ≡ length s → ⊥
not_past s j o e i = let z : None ≡ Some o = sym (past s) ∙ ap (slice_get s) (sym i) ∙ e in cc

pre_set : (s t : Segments) (y : Option Code) → Pre s t → Pre s (slice_set t (length s) y)
pre_set s t y f j o e = set_other t (length s) j y (not_past s j o e) ∙ f j o e

module _ (sizes : ℕ → ℕ) where
  abbrev sx : Exp → Option ℕ → ℕ → List Operand → List Kind → Code → Segments → Emitted
  sx = split_exp sizes

  pub joint_pre : (b : Bool) (ls : List Kind) (c : Code) (s : Segments) → Pre s (joint b ls c s).segments
  joint_pre false ls c s = λ j o e. e
  joint_pre true ls c s = pre_add s (Some c)

  pub labelled_pre : (b : Bool) (t : Option ℕ) (ls : List Kind) (c : Code) (s : Segments) → Pre s (labelled b t ls c s).segments
  labelled_pre false t ls c s = λ j o e. e
  labelled_pre true t ls c s = pre_add s (Some c)

  pub looping_pre : (b : Bool) (ls : List Kind) (s : Segments) → Pre s (looping b ls s).segments
  looping_pre false ls s = λ j o e. e
  looping_pre true ls s = pre_add s None

  pub looped_pre : (b : Bool) (m c : Code) (s t : Segments) → Pre s t → Pre s ((looped b m c (length s) t).segments)
  looped_pre false m c s t f = f
  looped_pre true m c s t f = pre_set s t (Some m) f

  pub catching_pre : (b : Bool) (h : ℕ) (ls : List Kind) (c m : Code) (s : Segments) → Pre s (catching b h ls c m s).segments
  catching_pre false h ls c m s = λ j o e. e
  catching_pre true h ls c m s = pre_add s (Some m)

  -- segments are only added
  mutual
    pub keeps : (e : Exp) (t : Option ℕ) (h : ℕ) (ns : List Operand) (ls : List Kind) (c : Code) (s : Segments) → Pre s ((split_exp sizes e t h ns ls c s).segments)
    keeps (Constant? l) t h ns ls c s = λ j o e. e
    keeps (Name x) t h ns ls c s = λ j o e. e
    keeps (exp.Global i) t h ns ls c s = λ j o e. e
    keeps (Do goal es) t h ns ls c s =
        let r = split_goal sizes goal (operands ns es h) t (h + count es) ns ls c s in
        pre_trans _ _ _ (keeps_goal goal (operands ns es h) t (h + count es) ns ls c s) (keeps_all es h ns ls r.code r.segments)
    keeps (Functions k b) t h ns ls c s = keeps b t (h + sizes k) (slots_from h (sizes k) ++ ns) ls c s
    keeps (exp.Loop b) t h ns ls c s =
        let q = looping (awaits b) ls s in
        looped_pre (awaits b) _ c s _ (pre_trans _ _ _ (looping_pre (awaits b) ls s) (keeps b None h ns q.around q.next q.segments))
    keeps (exp.Label b) t h ns ls c s =
        let q = labelled (awaits b) t ls c s in
        pre_trans _ _ _ (labelled_pre (awaits b) t ls c s) (keeps b t h ns q.around q.next q.segments)
    keeps (Try a b) t h ns ls c s =
        let q = joint (awaits a || awaits b) ls c s in
        let r = split_exp sizes b t (suc h) (Slot h ∷ ns) q.around q.next q.segments in
        let p = catching (awaits a || awaits b) h ls q.next r.code r.segments in
        pre_trans _ _ _ (joint_pre (awaits a || awaits b) ls c s) (pre_trans _ _ _ (keeps b t (suc h) (Slot h ∷ ns) q.around q.next q.segments) (pre_trans _ _ _ (catching_pre (awaits a || awaits b) h ls q.next r.code r.segments) (keeps a t (suc h) ns p.around p.next p.segments)))

    pub keeps_all : (es : Exps) (h : ℕ) (ns : List Operand) (ls : List Kind) (c : Code) (s : Segments) → Pre s ((split_all sizes es h ns ls c s).segments)
    keeps_all NoExp h ns ls c s = λ j o e. e
    keeps_all (AnExp e es) h ns ls c s =
        let r = split_all sizes es (suc h) ns ls c s in
        pre_trans _ _ _ (keeps_all es (suc h) ns ls c s) (keeps e (place e h) (suc h) ns ls r.code r.segments)

    pub keeps_goal : (g : Goal) (xs : List Operand) (t : Option ℕ) (h : ℕ) (ns : List Operand) (ls : List Kind) (c : Code) (s : Segments) → Pre s ((split_goal sizes g xs t h ns ls c s).segments)
    keeps_goal (Operate o) xs t h ns ls c s = λ j o e. e
    keeps_goal (Choose o a b) xs t h ns ls c s =
        let q = joint (awaits a || awaits b) ls c s in
        let r = split_exp sizes a t h ns q.around q.next q.segments in
        pre_trans _ _ _ (joint_pre (awaits a || awaits b) ls c s) (pre_trans _ _ _ (keeps a t h ns q.around q.next q.segments) (keeps b t h ns q.around q.next r.segments))
    keeps_goal (exp.Match p a b) xs t h ns ls c s =
        let q = joint (awaits a || awaits b) ls c s in
        let r = split_exp sizes a t (suc h) (Slot h ∷ ns) q.around q.next q.segments in
        pre_trans _ _ _ (joint_pre (awaits a || awaits b) ls c s) (pre_trans _ _ _ (keeps a t (suc h) (Slot h ∷ ns) q.around q.next q.segments) (keeps b t (suc h) ns q.around q.next r.segments))
    keeps_goal (Bind b) xs t h ns ls c s = keeps b t h (first xs ∷ ns) ls c s
    keeps_goal exp.Call xs t h ns ls c s = λ j o e. e
    keeps_goal exp.Tabulate xs t h ns ls c s = λ j o e. e
    keeps_goal (exp.Send g) xs t h ns ls c s = λ j o e. e
    keeps_goal Throw xs t h ns ls c s = λ j o e. e
    keeps_goal Await xs t h ns ls c s = pre_add s (Some c)
    keeps_goal (Break l) xs t h ns ls c s = λ j o e. e
    keeps_goal exp.Return xs t h ns ls c s = λ j o e. e

  -- final are the segments of the function
  module _ (final : List Code) where
    abbrev Ext : Segments → Type 0
    Ext s = (j : ℕ) (c : Code) → slice_get s j ≡ Some (Some c) → slice_get final j ≡ Some c

    ext : (s t : Segments) → Pre s t → Ext t → Ext s
    ext s t f g j c e = g j c (f j (Some c) e)

    never : {A : Type 0} (b : Bool) → b ≡ false → b ≡ true → A
    never b e f = absurd (let z : false ≡ true = sym e ∙ f in cc)

    or_left : (x y : Bool) → (x || y) ≡ false → x ≡ false
    or_left true y e = e
    or_left false y e = refl

    or_right : (x y : Bool) → (x || y) ≡ false → y ≡ false
    or_right true y e = absurd (let z : true ≡ false = e in cc)
    or_right false y e = e

    yes_left : (x y : Bool) → x ≡ true → (x || y) ≡ true
    yes_left true y e = refl
    yes_left false y e = absurd (let z : false ≡ true = e in cc)

    yes_right : (x y : Bool) → y ≡ true → (x || y) ≡ true
    yes_right true y e = refl
    yes_right false y e = e

    abbrev H : Code → Type 0
    H = Here sizes final

    -- the segments of the kinds are there
    abbrev HereL : List Kind → Type 0
    HereL [] = Unit {0}
    HereL (Other ∷ ls) = HereL ls
    HereL (LabelHere t ∷ ls) = HereL ls
    HereL (LabelAt j t ∷ ls) = H (Leave j) × HereL ls
    HereL (HandlerHere t ∷ ls) = HereL ls
    HereL (HandlerAt j t ∷ ls) = H (Leave j) × HereL ls

    jump_out : (w : Way) → H (jump w) → H (jump (out_by w))
    jump_out (Near n) h = tt
    jump_out (Far j) h = h

    way_here : (ls : List Kind) (l : ℕ) → HereL ls → H (jump (way ls l))
    way_here [] l h = tt
    way_here (Other ∷ ls) l h = jump_out (way ls l) (way_here ls l h)
    way_here (LabelHere t ∷ ls) zero h = tt
    way_here (LabelHere t ∷ ls) (suc l) h = jump_out (way ls l) (way_here ls l h)
    way_here (LabelAt j t ∷ ls) zero h = h.0
    way_here (LabelAt j t ∷ ls) (suc l) h = way_here ls l (h.1)
    way_here (HandlerHere t ∷ ls) l h = jump_out (way ls l) (way_here ls l h)
    way_here (HandlerAt j t ∷ ls) l h = way_here ls l (h.1)

    into_here : (t : ℕ) (a : Operand) (c : Code) → H (into t a c)
    into_here t a (Leave j) = tt
    into_here t a _ = tt

    move_here : (t : Option ℕ) (a : Operand) (c : Code) → H c → H (move t a c)
    move_here None a c h = h
    move_here (Some t) a c h = into_here t a c

    abbrev Sound : Exp → Type 0
    Sound e = (t : Option ℕ) (h : ℕ) (ns : List Operand) (ls : List Kind) (c : Code) (s : Segments) → Ext ((split_exp sizes e t h ns ls c s).segments) → (awaits e ≡ true → AllFar ls) → H c → HereL ls → Splits sizes final e t h ns ls c ((split_exp sizes e t h ns ls c s).code) × H ((split_exp sizes e t h ns ls c s).code)

    label_sound : (b : Exp) → Sound b → (x : Bool) → awaits b ≡ x → (t : Option ℕ) (h : ℕ) (ns : List Operand) (ls : List Kind) (c : Code) (s : Segments) → Ext ((split_exp sizes b t h ns (labelled x t ls c s).around (labelled x t ls c s).next (labelled x t ls c s).segments).segments) → (x ≡ true → AllFar ls) → HereL ls → Splits sizes final (exp.Label b) t h ns ls c (enclosed x ((split_exp sizes b t h ns (labelled x t ls c s).around (labelled x t ls c s).next (labelled x t ls c s).segments).code) c) × H (enclosed x ((split_exp sizes b t h ns (labelled x t ls c s).around (labelled x t ls c s).next (labelled x t ls c s).segments).code) c)
    label_sound b ih false e t h ns ls c s x far hl =
        let i = ih t h ns (LabelHere t ∷ ls) Stop s x (never (awaits b) e) tt hl in
        (inl (record { m = _; body = i.0; is = refl }), tt)
    label_sound b ih true e t h ns ls c s x far hl =
        let here = x (length s) c (keeps b t h ns (LabelAt (length s) t ∷ ls) (Leave (length s)) (s ++ Some c ∷ []) (length s) (Some c) (at_end s (Some c))) in
        let i = ih t h ns (LabelAt (length s) t ∷ ls) (Leave (length s)) (s ++ Some c ∷ []) x (λ i. far refl) (c, here) ((c, here), hl) in
        (inr (record { j = length s; far = far refl; here = here; body = i.0 }), i.1)

    loop_sound : (b : Exp) → Sound b → (x : Bool) → awaits b ≡ x → (t : Option ℕ) (h : ℕ) (ns : List Operand) (ls : List Kind) (c : Code) (s : Segments) → Ext ((looped x ((split_exp sizes b None h ns (looping x ls s).around (looping x ls s).next (looping x ls s).segments).code) c (length s) ((split_exp sizes b None h ns (looping x ls s).around (looping x ls s).next (looping x ls s).segments).segments)).segments) → (x ≡ true → AllFar ls) → HereL ls → Splits sizes final (exp.Loop b) t h ns ls c ((looped x ((split_exp sizes b None h ns (looping x ls s).around (looping x ls s).next (looping x ls s).segments).code) c (length s) ((split_exp sizes b None h ns (looping x ls s).around (looping x ls s).next (looping x ls s).segments).segments)).code) × H ((looped x ((split_exp sizes b None h ns (looping x ls s).around (looping x ls s).next (looping x ls s).segments).code) c (length s) ((split_exp sizes b None h ns (looping x ls s).around (looping x ls s).next (looping x ls s).segments).segments)).code)
    loop_sound b ih false e t h ns ls c s x far hl =
        let i = ih None h ns (Other ∷ ls) (Branch 0) s x (never (awaits b) e) tt hl in
        (inl (record { m = _; body = i.0; is = refl }), tt)
    loop_sound b ih true e t h ns ls c s x far hl =
        let r = split_exp sizes b None h ns ls (Leave (length s)) (s ++ None ∷ []) in
        let kept : slice_get r.segments (length s) ≡ Some None = keeps b None h ns ls (Leave (length s)) (s ++ None ∷ []) (length s) None (at_end s None) in
        let here = x (length s) r.code (set_same r.segments (length s) None (Some r.code) kept) in
        let i = ih None h ns ls (Leave (length s)) (s ++ None ∷ []) (λ j d i. x j d (set_other r.segments (length s) j (Some r.code) (λ q. let z : Some (Some d) ≡ Some None = sym i ∙ ap (slice_get r.segments) q ∙ kept in cc) ∙ i)) (λ i. far refl) (r.code, here) hl in
        (inr (record { j = length s; m = r.code; far = far refl; here = here; body = i.0; is = refl }), (r.code, here))

    choose_sound : (o : _) (a b : Exp) → Sound a → Sound b → (x : Bool) → (awaits a || awaits b) ≡ x → (xs : List Operand) (t : Option ℕ) (h : ℕ) (ns : List Operand) (ls : List Kind) (c : Code) (s : Segments) → let q = joint x ls c s in let r = split_exp sizes a t h ns q.around q.next q.segments in let u = split_exp sizes b t h ns q.around q.next r.segments in Ext u.segments → (x ≡ true → AllFar ls) → HereL ls → SplitsGoal sizes final (Choose o a b) xs t h ns ls c (If o xs r.code u.code q.after)
    choose_sound o a b ia ib false e xs t h ns ls c s x far hl =
        let r = split_exp sizes a t h ns (Other ∷ ls) Stop s in
        inl (record { m = _; n = _; yes = (ia t h ns (Other ∷ ls) Stop s (ext _ _ (keeps b t h ns (Other ∷ ls) Stop r.segments) x) (never (awaits a) (or_left (awaits a) (awaits b) e)) tt hl).0; no = (ib t h ns (Other ∷ ls) Stop r.segments x (never (awaits b) (or_right (awaits a) (awaits b) e)) tt hl).0; is = refl })
    choose_sound o a b ia ib true e xs t h ns ls c s x far hl =
        let j = length s in
        let r = split_exp sizes a t h ns ls (Leave j) (s ++ Some c ∷ []) in
        let y = ext _ _ (keeps b t h ns ls (Leave j) r.segments) x in
        let here = y j c (keeps a t h ns ls (Leave j) (s ++ Some c ∷ []) j (Some c) (at_end s (Some c))) in
        inr (record { j = j; m = _; n = _; far = far refl; here = here; yes = (ia t h ns ls (Leave j) (s ++ Some c ∷ []) y (λ i. far refl) (c, here) hl).0; no = (ib t h ns ls (Leave j) r.segments x (λ i. far refl) (c, here) hl).0; is = refl })

    match_sound : (p : _) (a b : Exp) → Sound a → Sound b → (x : Bool) → (awaits a || awaits b) ≡ x → (xs : List Operand) (t : Option ℕ) (h : ℕ) (ns : List Operand) (ls : List Kind) (c : Code) (s : Segments) → let q = joint x ls c s in let r = split_exp sizes a t (suc h) (Slot h ∷ ns) q.around q.next q.segments in let u = split_exp sizes b t (suc h) ns q.around q.next r.segments in Ext u.segments → (x ≡ true → AllFar ls) → HereL ls → SplitsGoal sizes final (exp.Match p a b) xs t h ns ls c (Match h p (first xs) r.code u.code q.after)
    match_sound p a b ia ib false e xs t h ns ls c s x far hl =
        let r = split_exp sizes a t (suc h) (Slot h ∷ ns) (Other ∷ ls) Stop s in
        inl (record { m = _; n = _; yes = (ia t (suc h) (Slot h ∷ ns) (Other ∷ ls) Stop s (ext _ _ (keeps b t (suc h) ns (Other ∷ ls) Stop r.segments) x) (never (awaits a) (or_left (awaits a) (awaits b) e)) tt hl).0; no = (ib t (suc h) ns (Other ∷ ls) Stop r.segments x (never (awaits b) (or_right (awaits a) (awaits b) e)) tt hl).0; is = refl })
    match_sound p a b ia ib true e xs t h ns ls c s x far hl =
        let j = length s in
        let r = split_exp sizes a t (suc h) (Slot h ∷ ns) ls (Leave j) (s ++ Some c ∷ []) in
        let y = ext _ _ (keeps b t (suc h) ns ls (Leave j) r.segments) x in
        let here = y j c (keeps a t (suc h) (Slot h ∷ ns) ls (Leave j) (s ++ Some c ∷ []) j (Some c) (at_end s (Some c))) in
        inr (record { j = j; m = _; n = _; far = far refl; here = here; yes = (ia t (suc h) (Slot h ∷ ns) ls (Leave j) (s ++ Some c ∷ []) y (λ i. far refl) (c, here) hl).0; no = (ib t (suc h) ns ls (Leave j) r.segments x (λ i. far refl) (c, here) hl).0; is = refl })

    try_sound : (a b : Exp) → Sound a → Sound b → (x : Bool) → (awaits a || awaits b) ≡ x → (t : Option ℕ) (h : ℕ) (ns : List Operand) (ls : List Kind) (c : Code) (s : Segments) → let q = joint x ls c s in let r = split_exp sizes b t (suc h) (Slot h ∷ ns) q.around q.next q.segments in let p = catching x h ls q.next r.code r.segments in let u = split_exp sizes a t (suc h) ns p.around p.next p.segments in Ext u.segments → (x ≡ true → AllFar ls) → HereL ls → Splits sizes final (Try a b) t h ns ls c (enclosed x (enclosed x u.code r.code) c) × H (enclosed x (enclosed x u.code r.code) c)
    try_sound a b ia ib false e t h ns ls c s x far hl =
        let r = split_exp sizes b t (suc h) (Slot h ∷ ns) (Other ∷ ls) Stop s in
        (inl (record { m = _; n = _; body = (ia t (suc h) ns (HandlerHere h ∷ Other ∷ ls) (Branch 1) r.segments x (never (awaits a) (or_left (awaits a) (awaits b) e)) tt hl).0; caught = (ib t (suc h) (Slot h ∷ ns) (Other ∷ ls) Stop s (ext _ _ (keeps a t (suc h) ns (HandlerHere h ∷ Other ∷ ls) (Branch 1) r.segments) x) (never (awaits b) (or_right (awaits a) (awaits b) e)) tt hl).0; is = refl }), tt)
    try_sound a b ia ib true e t h ns ls c s x far hl =
        let j = length s in
        let r = split_exp sizes b t (suc h) (Slot h ∷ ns) ls (Leave j) (s ++ Some c ∷ []) in
        let i = length r.segments in
        let y = ext _ _ (keeps a t (suc h) ns (HandlerAt i h ∷ ls) (Leave j) (r.segments ++ Some r.code ∷ [])) x in
        let z = ext _ _ (pre_add r.segments (Some r.code)) y in
        let here = z j c (keeps b t (suc h) (Slot h ∷ ns) ls (Leave j) (s ++ Some c ∷ []) j (Some c) (at_end s (Some c))) in
        let there = y i r.code (at_end r.segments (Some r.code)) in
        let u = ia t (suc h) ns (HandlerAt i h ∷ ls) (Leave j) (r.segments ++ Some r.code ∷ []) x (λ k. far refl) (c, here) ((r.code, there), hl) in
        (inr (record { j = j; i = i; n = r.code; far = far refl; here = here; there = there; body = u.0; caught = (ib t (suc h) (Slot h ∷ ns) ls (Leave j) (s ++ Some c ∷ []) z (λ k. far refl) (c, here) hl).0 }), u.1)

    mutual
      pub sound : (e : Exp) → Sound e
      sound (Constant? l) t h ns ls c s x far hc hl = ((refl, hc), move_here t _ c hc)
      sound (Name n) t h ns ls c s x far hc hl = ((refl, hc), move_here t _ c hc)
      sound (exp.Global i) t h ns ls c s x far hc hl = ((refl, hc), move_here t _ c hc)
      sound (Do goal es) t h ns ls c s x far hc hl =
          let r = split_goal sizes goal (operands ns es h) t (h + count es) ns ls c s in
          let g = sound_goal goal (operands ns es h) t (h + count es) ns ls c s (ext _ _ (keeps_all es h ns ls r.code r.segments) x) (λ i. far (yes_left (awaits_goal goal) (awaits_all es) i)) hc hl in
          let y = sound_all es h ns ls r.code r.segments x (λ i. far (yes_right (awaits_goal goal) (awaits_all es) i)) (g.1) hl in
          ((r.code, g.0, y.0), y.1)
      sound (Functions k b) t h ns ls c s x far hc hl = ((_, (sound b t (h + sizes k) (slots_from h (sizes k) ++ ns) ls c s x far hc hl).0, refl), tt)
      sound (exp.Loop b) t h ns ls c s x far hc hl = loop_sound b (λ t h ns ls c s. sound b t h ns ls c s) (awaits b) refl t h ns ls c s x far hl
      sound (exp.Label b) t h ns ls c s x far hc hl = label_sound b (λ t h ns ls c s. sound b t h ns ls c s) (awaits b) refl t h ns ls c s x far hl
      sound (Try a b) t h ns ls c s x far hc hl =
          try_sound a b (λ t h ns ls c s. sound a t h ns ls c s) (λ t h ns ls c s. sound b t h ns ls c s) (awaits a || awaits b) refl t h ns ls c s x far hl

      sound_all : (es : Exps) (h : ℕ) (ns : List Operand) (ls : List Kind) (c : Code) (s : Segments) → Ext ((split_all sizes es h ns ls c s).segments) → (awaits_all es ≡ true → AllFar ls) → H c → HereL ls → SplitsAll sizes final es h ns ls c ((split_all sizes es h ns ls c s).code) × H ((split_all sizes es h ns ls c s).code)
      sound_all NoExp h ns ls c s x far hc hl = (refl, hc)
      sound_all (AnExp e es) h ns ls c s x far hc hl =
          let r = split_all sizes es (suc h) ns ls c s in
          let y = sound_all es (suc h) ns ls c s (ext _ _ (keeps e (place e h) (suc h) ns ls r.code r.segments) x) (λ i. far (yes_right (awaits e) (awaits_all es) i)) hc hl in
          let z = sound e (place e h) (suc h) ns ls r.code r.segments x (λ i. far (yes_left (awaits e) (awaits_all es) i)) (y.1) hl in
          ((r.code, y.0, z.0), z.1)

      sound_goal : (g : Goal) (xs : List Operand) (t : Option ℕ) (h : ℕ) (ns : List Operand) (ls : List Kind) (c : Code) (s : Segments) → Ext ((split_goal sizes g xs t h ns ls c s).segments) → (awaits_goal g ≡ true → AllFar ls) → H c → HereL ls → SplitsGoal sizes final g xs t h ns ls c ((split_goal sizes g xs t h ns ls c s).code) × H ((split_goal sizes g xs t h ns ls c s).code)
      sound_goal (Operate o) xs t h ns ls c s x far hc hl = (refl, tt)
      sound_goal (Choose o a b) xs t h ns ls c s x far hc hl =
          (choose_sound o a b (λ t h ns ls c s. sound a t h ns ls c s) (λ t h ns ls c s. sound b t h ns ls c s) (awaits a || awaits b) refl xs t h ns ls c s x far hl, tt)
      sound_goal (exp.Match p a b) xs t h ns ls c s x far hc hl =
          (match_sound p a b (λ t h ns ls c s. sound a t h ns ls c s) (λ t h ns ls c s. sound b t h ns ls c s) (awaits a || awaits b) refl xs t h ns ls c s x far hl, tt)
      sound_goal (Bind b) xs t h ns ls c s x far hc hl = sound b t h (first xs ∷ ns) ls c s x far hc hl
      sound_goal exp.Call xs t h ns ls c s x far hc hl = (refl, tt)
      sound_goal exp.Tabulate xs t h ns ls c s x far hc hl = (refl, tt)
      sound_goal (exp.Send g) xs t h ns ls c s x far hc hl = (refl, tt)
      sound_goal Throw xs t h ns ls c s x far hc hl = (refl, tt)
      sound_goal Await xs t h ns ls c s x far hc hl = (record { j = length s; far = far refl; here = x (length s) c (at_end s (Some c)); is = refl }, tt)
      sound_goal (Break l) xs t h ns ls c s x far hc hl = ((refl, way_here ls l hl), move_here (target ls l) (first xs) (jump (way ls l)) (way_here ls l hl))
      sound_goal exp.Return xs t h ns ls c s x far hc hl = (refl, tt)
