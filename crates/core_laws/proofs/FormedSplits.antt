-- The code of a formed expression is formed.
use Rattle.std.proofs.Common.{◌≡◌, ℕ, suc, ◌+◌, ◌<◌, ◌≤◌, refl, sym, ap, ◌∙◌, subst, List, [], ◌∷◌, ◌++◌, length, Option, Some, None, Bool, true, false, arith as arithmetic}
use Rattle.std.specs.Prelude.{◌||◌}
use Rattle.core_ir.specs.declared.code.Operand.{Operand}
use Rattle.core_ir.specs.declared.code.Operand.TheVariants.{Slot, Global, Constant}
use Rattle.core_ir.specs.Arities.{arity}
use Rattle.core_ir.specs.Arities as arities
use Rattle.core_ir.specs.Expressions as core
use Rattle.core_ir.specs.Expressions.{Exp, Constant?, Name, Do, Functions, Try, Exps, NoExp, AnExp, Goal, Operate, Choose, Bind, Throw, Await, Break}
use Rattle.core_ir.specs.FormedExpressions.{width, width_all, width_goal, FormedExp, FormedAll, FormedGoal}
use Rattle.core_ir.specs.Code.{Code}
use Rattle.core_laws.specs.Around.{Kind, way, target}
use Rattle.core_laws.specs.Slots.{name_at, operands, place, count, first, others, slots_from, jump}
use Rattle.core_laws.specs.Split.{Segments, Emitted, Joint, awaits, awaits_all, awaits_goal, joint, labelled, looping, looped, catching, enclosed, split_exp, split_all, split_goal}
use Rattle.core_laws.proofs.FormedPieces.{length_push, length_under, length_operands, length_others, near, labels, Is, Ok, AllOk, Target, Kinds, Segs, Opened, outer, name_formed, operands_formed, first_formed, others_formed, slots_formed, append_formed, slot_formed, place_formed, move_formed, way_formed, target_formed, handler_formed, push_formed, push_open, set_formed}
use Rattle.core_laws.proofs.SegmentCounts.{pre_length, length_set}
use Rattle.core_laws.proofs.SoundSplitting.{Pre, keeps, keeps_all}

either : {A : Type 0} (x y : Bool) → (x || y) ≡ true → (x ≡ true → A) → (y ≡ true → A) → A
either true y e f g = f refl
either false y e f g = g e

left : (x y : Bool) → x ≡ true → (x || y) ≡ true
left true y e = refl
left false y e = absurd (let z : false ≡ true = e in cc)

right : (x y : Bool) → y ≡ true → (x || y) ≡ true
right true y e = refl
right false y e = e

no : {A : Type 0} → false ≡ true → A
no e = absurd (let z : false ≡ true = e in cc)

-- ---- an `await` stands in the body of a method alone

module _ (sizes sees : ℕ → ℕ) (globals bound : ℕ) (shared : Bool) where
  mutual
    pub only_shared : (n l : ℕ) (e : Exp) → FormedExp sizes sees globals bound shared n l e → awaits e ≡ true → shared ≡ true
    only_shared n l (Constant? k) f a = no a
    only_shared n l (Name x) f a = no a
    only_shared n l (core.Global i) f a = no a
    only_shared n l (Do goal es) f a = either (awaits_goal goal) (awaits_all es) a (only_shared_goal n l goal (count es) (f.0)) (only_shared_all n l es (f.1))
    only_shared n l (Functions k b) f a = only_shared (sizes k + n) l b (f.2) a
    only_shared n l (core.Loop b) f a = only_shared n l b f a
    only_shared n l (core.Label b) f a = only_shared n (suc l) b f a
    only_shared n l (Try x b) f a = f.0

    only_shared_all : (n l : ℕ) (es : Exps) → FormedAll sizes sees globals bound shared n l es → awaits_all es ≡ true → shared ≡ true
    only_shared_all n l NoExp f a = no a
    only_shared_all n l (AnExp e es) f a = either (awaits e) (awaits_all es) a (only_shared n l e (f.0)) (only_shared_all n l es (f.1))

    only_shared_goal : (n l : ℕ) (g : Goal) (m : ℕ) → FormedGoal sizes sees globals bound shared n l g m → awaits_goal g ≡ true → shared ≡ true
    only_shared_goal n l (Operate p) m f a = no a
    only_shared_goal n l (Choose p x y) m f a = either (awaits x) (awaits y) a (only_shared n l x (f.2)) (only_shared n l y (f.3))
    only_shared_goal n l (core.Match k x y) m f a = either (awaits x) (awaits y) a (only_shared (suc n) l x (f.1)) (only_shared n l y (f.2))
    only_shared_goal n l (Bind b) m f a = only_shared (suc n) l b (f.1) a
    only_shared_goal n l core.Call m f a = no a
    only_shared_goal n l core.Tabulate m f a = no a
    only_shared_goal n l (core.Send s) m f a = f.0
    only_shared_goal n l Throw m f a = f.0
    only_shared_goal n l Await m f a = f.0
    only_shared_goal n l (Break i) m f a = no a
    only_shared_goal n l core.Return m f a = no a

module _ (sizes sees : ℕ → ℕ) (globals bound : ℕ) (shared : Bool) (slots total size seen : ℕ) where
  abbrev F : ℕ → Code → Type 0
  F n c = Is sizes sees globals bound shared slots total size seen n c

  abbrev O : Operand → Type 0
  O x = Ok sizes sees globals bound shared slots total size seen x

  abbrev Os : List Operand → Type 0
  Os xs = AllOk sizes sees globals bound shared slots total size seen xs

  abbrev T : Option ℕ → Type 0
  T t = Target sizes sees globals bound shared slots total size seen t

  abbrev K : List Kind → Type 0
  K ls = Kinds sizes sees globals bound shared slots total size seen ls

  abbrev S : (ℕ → Type 0) → Segments → Type 0
  S Open s = Segs sizes sees globals bound shared slots total size seen Open s

  abbrev Some_open : Bool → (ℕ → Type 0) → ℕ → ℕ → Type 0
  Some_open b Open n = Opened sizes sees globals bound shared slots total size seen b Open n

  abbrev Made : (ℕ → Type 0) → List Kind → Emitted → Type 0
  Made Open ls r = F (near ls) r.code × S Open r.segments

  -- where it is cut, nothing of its segment stands around, in the body of a method
  abbrev Far : Bool → List Kind → Type 0
  Far b ls = b ≡ true → near ls ≡ 0

  abbrev Cut : Bool → List Kind → Type 0
  Cut b ls = b ≡ true → (shared ≡ true) × (near ls ≡ 0)

  at_zero : (ls : List Kind) (c : Code) → near ls ≡ 0 → F (near ls) c → F 0 c
  at_zero ls c z f = subst (λ n. F n c) z f

  ends : (s t : Segments) → Pre s t → length t ≤ total → length s ≤ total
  ends s t f l = let a = pre_length s t f in omega (arithmetic, a, l)

  before : (s : Segments) (x : Option Code) → length (s ++ x ∷ []) ≤ total → length s < total
  before s x l = let a = length_push s x in omega (arithmetic, a, l)

  looped_ends : (b : Bool) (m c : Code) (j : ℕ) (s : Segments) → length (looped b m c j s).segments ≤ total → length s ≤ total
  looped_ends false m c j s l = l
  looped_ends true m c j s l = let a = length_set s j (Some m) in omega (arithmetic, a, l)

  catching_ends : (b : Bool) (h : ℕ) (ls : List Kind) (next m : Code) (s : Segments) → length (catching b h ls next m s).segments ≤ total → length s ≤ total
  catching_ends false h ls next m s l = l
  catching_ends true h ls next m s l = let a = before s (Some m) l in omega (arithmetic, a)

  -- ---- constructs

  record Joined (Open : ℕ → Type 0) (l : ℕ) (ls : List Kind) (q : Joint) : Type 0 where
    labelled : labels q.around ≡ l
    kinds : K q.around
    next : F (near q.around) q.next
    after : F (near ls) q.after
    segments : S Open q.segments
    inside : (y : Code) → F (near q.around) y → F (suc (near ls)) y

  joint_formed : (b : Bool) (Open : ℕ → Type 0) (l : ℕ) (ls : List Kind) (c : Code) (s : Segments) → Cut b ls → labels ls ≡ l → K ls → F (near ls) c → S Open s → length (joint b ls c s).segments ≤ total
      → Joined Open l ls (joint b ls c s)
  joint_formed false Open l ls c s cut e k f h t = record { labelled = e; kinds = k; next = (let z : 0 < suc (near ls) = omega arithmetic in z); after = f; segments = h; inside = λ y g. g }
  joint_formed true Open l ls c s cut e k f h t =
      let d = cut refl in
      record {
        labelled = e;
        kinds = k;
        next = (d.0, before s (Some c) t);
        after = (d.0, before s (Some c) t);
        segments = push_formed sizes sees globals bound shared slots total size seen Open s c h (at_zero ls c (d.1) f);
        inside = λ y g. outer sizes sees globals bound shared slots total size seen (near ls) y g;
      }

  joint_far : (b : Bool) (ls : List Kind) (c : Code) (s : Segments) → Far b ls → Far b (joint b ls c s).around
  joint_far false ls c s f e = no e
  joint_far true ls c s f e = f e

  record LabelFormed (Open : ℕ → Type 0) (b : Bool) (l : ℕ) (ls : List Kind) (c : Code) (q : Joint) : Type 0 where
    labelled : labels q.around ≡ suc l
    kinds : K q.around
    next : F (near q.around) q.next
    segments : S Open q.segments
    inside : (y : Code) → F (near q.around) y → F (near ls) (enclosed b y c)

  label_formed : (b : Bool) (Open : ℕ → Type 0) (l : ℕ) (t : Option ℕ) (ls : List Kind) (c : Code) (s : Segments) → Cut b ls → labels ls ≡ l → T t → K ls → F (near ls) c → S Open s → length (labelled b t ls c s).segments ≤ total
      → LabelFormed Open b l ls c (labelled b t ls c s)
  label_formed false Open l t ls c s cut e ht k f h i = record { labelled = ap suc e; kinds = (ht, k); next = (let z : 0 < suc (near ls) = omega arithmetic in z); segments = h; inside = λ y g. (g, f) }
  label_formed true Open l t ls c s cut e ht k f h i =
      let d = cut refl in
      record {
        labelled = ap suc e;
        kinds = (ht, (d.0, before s (Some c) i), k);
        next = (d.0, before s (Some c) i);
        segments = push_formed sizes sees globals bound shared slots total size seen Open s c h (at_zero ls c (d.1) f);
        inside = λ y g. g;
      }

  label_far : (b : Bool) (t : Option ℕ) (ls : List Kind) (c : Code) (s : Segments) → Far b ls → Far b (labelled b t ls c s).around
  label_far false t ls c s f e = no e
  label_far true t ls c s f e = f e

  record LoopFormed (Open : ℕ → Type 0) (b : Bool) (l : ℕ) (ls : List Kind) (n : ℕ) (q : Joint) : Type 0 where
    labelled : labels q.around ≡ l
    kinds : K q.around
    next : F (near q.around) q.next
    segments : S (Some_open b Open n) q.segments
    inside : (m c : Code) (r : Segments) → F (near q.around) m → F (near ls) c → S (Some_open b Open n) r → Made Open ls (looped b m c n r)

  loop_formed : (b : Bool) (Open : ℕ → Type 0) (l : ℕ) (ls : List Kind) (s : Segments) → Cut b ls → labels ls ≡ l → K ls → S Open s → length (looping b ls s).segments ≤ total
      → LoopFormed Open b l ls (length s) (looping b ls s)
  loop_formed false Open l ls s cut e k h i = record { labelled = e; kinds = k; next = (let z : 0 < suc (near ls) = omega arithmetic in z); segments = h; inside = λ m c r f g x. ((f, g), x) }
  loop_formed true Open l ls s cut e k h i =
      let d = cut refl in
      record {
        labelled = e;
        kinds = k;
        next = (d.0, before s None i);
        segments = push_open sizes sees globals bound shared slots total size seen Open s h;
        inside = λ m c r f g x. ((d.0, before s None i), set_formed sizes sees globals bound shared slots total size seen Open r (length s) m x (at_zero ls m (d.1) f));
      }

  loop_far : (b : Bool) (ls : List Kind) (s : Segments) → Far b ls → Far b (looping b ls s).around
  loop_far false ls s f e = no e
  loop_far true ls s f e = f e

  -- the body of a `try`, whose error goes on as m
  record TryFormed (Open : ℕ → Type 0) (b : Bool) (l : ℕ) (ls : List Kind) (c m : Code) (q : Joint) : Type 0 where
    labelled : labels q.around ≡ l
    kinds : K q.around
    next : F (near q.around) q.next
    segments : S Open q.segments
    inside : (y : Code) → F (near q.around) y → F (near ls) (enclosed b (enclosed b y m) c)

  try_formed : (b : Bool) (Open : ℕ → Type 0) (l h : ℕ) (ls : List Kind) (c m : Code) (s r : Segments) → Cut b ls → labels ls ≡ l → h < slots → K ls → F (near ls) c → F (near (joint b ls c s).around) (joint b ls c s).next → F (near (joint b ls c s).around) m → S Open r
      → length (catching b h ls (joint b ls c s).next m r).segments ≤ total → TryFormed Open b l ls c m (catching b h ls (joint b ls c s).next m r)
  try_formed false Open l h ls c m s r cut e hs k f n g x i = record { labelled = e; kinds = (hs, k); next = (let z : 1 < suc (suc (near ls)) = omega arithmetic in z); segments = x; inside = λ y u. ((u, g), f) }
  try_formed true Open l h ls c m s r cut e hs k f n g x i =
      let d = cut refl in
      record {
        labelled = e;
        kinds = (hs, (d.0, before r (Some m) i), k);
        next = n;
        segments = push_formed sizes sees globals bound shared slots total size seen Open r m x (at_zero ls m (d.1) g);
        inside = λ y u. u;
      }

  try_far : (b : Bool) (h : ℕ) (ls : List Kind) (next m : Code) (s : Segments) → Far b ls → Far b (catching b h ls next m s).around
  try_far false h ls next m s f e = no e
  try_far true h ls next m s f e = f e

  -- ---- expressions

  mutual
    exp_formed : (e : Exp) (Open : ℕ → Type 0) (n l : ℕ) (t : Option ℕ) (h : ℕ) (ns : List Operand) (ls : List Kind) (c : Code) (s : Segments)
        → FormedExp sizes sees globals bound shared n l e → length ns ≡ n → labels ls ≡ l → Far (awaits e) ls → T t → h + width sizes e ≤ slots → Os ns → K ls → F (near ls) c → S Open s
        → length (split_exp sizes e t h ns ls c s).segments ≤ total → Made Open ls (split_exp sizes e t h ns ls c s)
    exp_formed (Constant? k) Open n l t h ns ls c s f en el far ht w hn hk hc hs i = (move_formed sizes sees globals bound shared slots total size seen (near ls) t (Constant k) c ht tt hc, hs)
    exp_formed (Name x) Open n l t h ns ls c s f en el far ht w hn hk hc hs i =
        (move_formed sizes sees globals bound shared slots total size seen (near ls) t (name_at ns x) c ht (name_formed sizes sees globals bound shared slots total size seen ns x hn) hc, hs)
    exp_formed (core.Global g) Open n l t h ns ls c s f en el far ht w hn hk hc hs i = (move_formed sizes sees globals bound shared slots total size seen (near ls) t (Global g) c ht f hc, hs)
    exp_formed (Do goal es) Open n l t h ns ls c s f en el far ht w hn hk hc hs i =
        let xs = operands ns es h in
        let r = split_goal sizes goal xs t (h + count es) ns ls c s in
        let hx = operands_formed sizes sees globals bound shared slots total size seen ns n l es h (f.1) hn (omega (arithmetic, w)) in
        let x = goal_formed goal Open n l xs (count es) t (h + count es) ns ls c s (f.0) (length_operands ns es h) en el (λ a. far (left (awaits_goal goal) (awaits_all es) a)) ht (omega (arithmetic, w)) hx hn hk hc hs
        (ends r.segments (split_all sizes es h ns ls r.code r.segments).segments (keeps_all sizes es h ns ls r.code r.segments) i) in
        all_formed es Open n l h ns ls r.code r.segments (f.1) en el (λ a. far (right (awaits_goal goal) (awaits_all es) a)) (omega (arithmetic, w)) hn hk (x.0) (x.1) i
    exp_formed (Functions k b) Open n l t h ns ls c s f en el far ht w hn hk hc hs i =
        let inner = slots_from h (sizes k) ++ ns in
        let x = exp_formed b Open (sizes k + n) l t (h + sizes k) inner ls c s (f.2) (length_under h (sizes k) n ns en) el far ht (omega (arithmetic, w))
        (append_formed sizes sees globals bound shared slots total size seen (slots_from h (sizes k)) ns (slots_formed sizes sees globals bound shared slots total size seen h (sizes k) (omega (arithmetic, w))) hn) hk hc hs i in
        (((let z : h + sizes k ≤ slots = omega (arithmetic, w) in z), f.0, en ∙ sym (f.1), hn, x.0), x.1)
    exp_formed (core.Loop b) Open n l t h ns ls c s f en el far ht w hn hk hc hs i =
        let z = awaits b in
        let q = looping z ls s in
        let r = split_exp sizes b None h ns q.around q.next q.segments in
        let ir : length r.segments ≤ total = looped_ends z r.code c (length s) r.segments i in
        let iq = ends q.segments r.segments (keeps sizes b None h ns q.around q.next q.segments) ir in
        let j = loop_formed z Open l ls s (λ a. (only_shared sizes sees globals bound shared n l b f a, far a)) el hk hs iq in
        let x = exp_formed b (Some_open z Open (length s)) n l None h ns q.around q.next q.segments f en j.labelled (loop_far z ls s far) tt w hn j.kinds j.next j.segments ir in
        j.inside r.code c r.segments (x.0) hc (x.1)
    exp_formed (core.Label b) Open n l t h ns ls c s f en el far ht w hn hk hc hs i =
        let z = awaits b in
        let q = labelled z t ls c s in
        let r = split_exp sizes b t h ns q.around q.next q.segments in
        let iq = ends q.segments r.segments (keeps sizes b t h ns q.around q.next q.segments) i in
        let j = label_formed z Open l t ls c s (λ a. (only_shared sizes sees globals bound shared n (suc l) b f a, far a)) el ht hk hc hs iq in
        let x = exp_formed b Open n (suc l) t h ns q.around q.next q.segments f en j.labelled (label_far z t ls c s far) ht w hn j.kinds j.next j.segments i in
        (j.inside r.code (x.0), x.1)
    exp_formed (Try a b) Open n l t h ns ls c s f en el far ht w hn hk hc hs i =
        let z = awaits a || awaits b in
        let q = joint z ls c s in
        let r = split_exp sizes b t (suc h) (Slot h ∷ ns) q.around q.next q.segments in
        let p = catching z h ls q.next r.code r.segments in
        let u = split_exp sizes a t (suc h) ns p.around p.next p.segments in
        let low : h < slots = omega (arithmetic, w) in
        let ip = ends p.segments u.segments (keeps sizes a t (suc h) ns p.around p.next p.segments) i in
        let ir = catching_ends z h ls q.next r.code r.segments ip in
        let iq = ends q.segments r.segments (keeps sizes b t (suc h) (Slot h ∷ ns) q.around q.next q.segments) ir in
        let cut : Cut z ls = λ y. (f.0, far y) in
        let j = joint_formed z Open l ls c s cut el hk hc hs iq in
        let x = exp_formed b Open (suc n) l t (suc h) (Slot h ∷ ns) q.around q.next q.segments (f.2) (ap suc en) j.labelled (λ y. joint_far z ls c s far (right (awaits a) (awaits b) y)) ht (omega (arithmetic, w)) (low, hn) j.kinds j.next j.segments ir in
        let m = try_formed z Open l h ls c r.code s r.segments cut el low hk hc j.next (x.0) (x.1) ip in
        let y = exp_formed a Open n l t (suc h) ns p.around p.next p.segments (f.1) en m.labelled (λ y. try_far z h ls q.next r.code r.segments far (left (awaits a) (awaits b) y)) ht (omega (arithmetic, w)) hn m.kinds m.next m.segments i in
        (m.inside u.code (y.0), y.1)

    pub all_formed : (es : Exps) (Open : ℕ → Type 0) (n l h : ℕ) (ns : List Operand) (ls : List Kind) (c : Code) (s : Segments)
        → FormedAll sizes sees globals bound shared n l es → length ns ≡ n → labels ls ≡ l → Far (awaits_all es) ls → h + width_all sizes es ≤ slots → Os ns → K ls → F (near ls) c → S Open s
        → length (split_all sizes es h ns ls c s).segments ≤ total → Made Open ls (split_all sizes es h ns ls c s)
    all_formed NoExp Open n l h ns ls c s f en el far w hn hk hc hs i = (hc, hs)
    all_formed (AnExp e es) Open n l h ns ls c s f en el far w hn hk hc hs i =
        let r = split_all sizes es (suc h) ns ls c s in
        let x = all_formed es Open n l (suc h) ns ls c s (f.1) en el (λ a. far (right (awaits e) (awaits_all es) a)) (omega (arithmetic, w)) hn hk hc hs
        (ends r.segments (split_exp sizes e (place e h) (suc h) ns ls r.code r.segments).segments (keeps sizes e (place e h) (suc h) ns ls r.code r.segments) i) in
        exp_formed e Open n l (place e h) (suc h) ns ls r.code r.segments (f.0) en el (λ a. far (left (awaits e) (awaits_all es) a))
        (place_formed sizes sees globals bound shared slots total size seen e h (omega (arithmetic, w))) (omega (arithmetic, w)) hn hk (x.0) (x.1) i

    goal_formed : (g : Goal) (Open : ℕ → Type 0) (n l : ℕ) (xs : List Operand) (m : ℕ) (t : Option ℕ) (h : ℕ) (ns : List Operand) (ls : List Kind) (c : Code) (s : Segments)
        → FormedGoal sizes sees globals bound shared n l g m → length xs ≡ m → length ns ≡ n → labels ls ≡ l → Far (awaits_goal g) ls → T t → h + width_goal sizes g ≤ slots → Os xs → Os ns → K ls → F (near ls) c → S Open s
        → length (split_goal sizes g xs t h ns ls c s).segments ≤ total → Made Open ls (split_goal sizes g xs t h ns ls c s)
    goal_formed (Operate p) Open n l xs m t h ns ls c s f ex en el far ht w hx hn hk hc hs i =
        ((slot_formed sizes sees globals bound shared slots total size seen t h ht (omega (arithmetic, w)), subst (λ m. arities.Takes (arity p) m) (sym ex) f, hx, hc), hs)
    goal_formed (Choose p a b) Open n l xs m t h ns ls c s f ex en el far ht w hx hn hk hc hs i =
        let z = awaits a || awaits b in
        let q = joint z ls c s in
        let r = split_exp sizes a t h ns q.around q.next q.segments in
        let u = split_exp sizes b t h ns q.around q.next r.segments in
        let ir = ends r.segments u.segments (keeps sizes b t h ns q.around q.next r.segments) i in
        let iq = ends q.segments r.segments (keeps sizes a t h ns q.around q.next q.segments) ir in
        let shares : z ≡ true → shared ≡ true = λ y. either (awaits a) (awaits b) y (only_shared sizes sees globals bound shared n l a (f.2)) (only_shared sizes sees globals bound shared n l b (f.3)) in
        let j = joint_formed z Open l ls c s (λ y. (shares y, far y)) el hk hc hs iq in
        let x = exp_formed a Open n l t h ns q.around q.next q.segments (f.2) en j.labelled (λ y. joint_far z ls c s far (left (awaits a) (awaits b) y)) ht (omega (arithmetic, w)) hn j.kinds j.next j.segments ir in
        let y = exp_formed b Open n l t h ns q.around q.next r.segments (f.3) en j.labelled (λ y. joint_far z ls c s far (right (awaits a) (awaits b) y)) ht (omega (arithmetic, w)) hn j.kinds j.next (x.1) i in
        ((subst (λ m. arities.Takes (arity p) m) (sym ex) (f.0), f.1, hx, j.inside r.code (x.0), j.inside u.code (y.0), j.after), y.1)
    goal_formed (core.Match k a b) Open n l xs m t h ns ls c s f ex en el far ht w hx hn hk hc hs i =
        let z = awaits a || awaits b in
        let q = joint z ls c s in
        let r = split_exp sizes a t (suc h) (Slot h ∷ ns) q.around q.next q.segments in
        let u = split_exp sizes b t (suc h) ns q.around q.next r.segments in
        let low : h < slots = omega (arithmetic, w) in
        let one = f.0 in
        let ir = ends r.segments u.segments (keeps sizes b t (suc h) ns q.around q.next r.segments) i in
        let iq = ends q.segments r.segments (keeps sizes a t (suc h) (Slot h ∷ ns) q.around q.next q.segments) ir in
        let shares : z ≡ true → shared ≡ true = λ y. either (awaits a) (awaits b) y (only_shared sizes sees globals bound shared (suc n) l a (f.1)) (only_shared sizes sees globals bound shared n l b (f.2)) in
        let j = joint_formed z Open l ls c s (λ y. (shares y, far y)) el hk hc hs iq in
        let x = exp_formed a Open (suc n) l t (suc h) (Slot h ∷ ns) q.around q.next q.segments (f.1) (ap suc en) j.labelled (λ y. joint_far z ls c s far (left (awaits a) (awaits b) y)) ht (omega (arithmetic, w)) (low, hn) j.kinds j.next j.segments ir in
        let y = exp_formed b Open n l t (suc h) ns q.around q.next r.segments (f.2) en j.labelled (λ y. joint_far z ls c s far (right (awaits a) (awaits b) y)) ht (omega (arithmetic, w)) hn j.kinds j.next (x.1) i in
        ((low, first_formed sizes sees globals bound shared slots total size seen xs hx (omega (arithmetic, ex, one)), j.inside r.code (x.0), j.inside u.code (y.0), j.after), y.1)
    goal_formed (Bind b) Open n l xs m t h ns ls c s f ex en el far ht w hx hn hk hc hs i =
        let one = f.0 in
        exp_formed b Open (suc n) l t h (first xs ∷ ns) ls c s (f.1) (ap suc en) el far ht w (first_formed sizes sees globals bound shared slots total size seen xs hx (omega (arithmetic, ex, one)), hn) hk hc hs i
    goal_formed core.Call Open n l xs m t h ns ls c s f ex en el far ht w hx hn hk hc hs i =
        ((slot_formed sizes sees globals bound shared slots total size seen t h ht (omega (arithmetic, w)), first_formed sizes sees globals bound shared slots total size seen xs hx (omega (arithmetic, ex, f)), others_formed sizes sees globals bound shared slots total size seen xs hx, hc), hs)
    goal_formed core.Tabulate Open n l xs m t h ns ls c s f ex en el far ht w hx hn hk hc hs i =
        let e = length_others xs 1 (omega (arithmetic, ex, f)) in
        ((slot_formed sizes sees globals bound shared slots total size seen t h ht (omega (arithmetic, w)), first_formed sizes sees globals bound shared slots total size seen xs hx (omega (arithmetic, ex, f)), first_formed sizes sees globals bound shared slots total size seen (others xs) (others_formed sizes sees globals bound shared slots total size seen xs hx) (omega (arithmetic, e)), hc), hs)
    goal_formed (core.Send g) Open n l xs m t h ns ls c s f ex en el far ht w hx hn hk hc hs i =
        let many = f.1 in
        ((f.0, slot_formed sizes sees globals bound shared slots total size seen t h ht (omega (arithmetic, w)), first_formed sizes sees globals bound shared slots total size seen xs hx (omega (arithmetic, ex, many)), length_others xs (length g.parameters) (ex ∙ many), others_formed sizes sees globals bound shared slots total size seen xs hx, handler_formed sizes sees globals bound shared slots total size seen ls hk, hc), hs)
    goal_formed Throw Open n l xs m t h ns ls c s f ex en el far ht w hx hn hk hc hs i =
        let one = f.1 in
        ((f.0, first_formed sizes sees globals bound shared slots total size seen xs hx (omega (arithmetic, ex, one)), handler_formed sizes sees globals bound shared slots total size seen ls hk), hs)
    goal_formed Await Open n l xs m t h ns ls c s f ex en el far ht w hx hn hk hc hs i =
        let one = f.1 in (
          (f.0, slot_formed sizes sees globals bound shared slots total size seen t h ht (omega (arithmetic, w)), first_formed sizes sees globals bound shared slots total size seen xs hx (omega (arithmetic, ex, one)), handler_formed sizes sees globals bound shared slots total size seen ls hk, before s (Some c) i),
          push_formed sizes sees globals bound shared slots total size seen Open s c hs (at_zero ls c (far refl) hc),
        )
    goal_formed (Break j) Open n l xs m t h ns ls c s f ex en el far ht w hx hn hk hc hs i =
        let one = f.1 in
        let less = f.0 in
        (move_formed sizes sees globals bound shared slots total size seen (near ls) (target ls j) (first xs) (jump (way ls j)) (target_formed sizes sees globals bound shared slots total size seen ls j hk) (first_formed sizes sees globals bound shared slots total size seen xs hx (omega (arithmetic, ex, one))) (way_formed sizes sees globals bound shared slots total size seen ls j hk (omega (arithmetic, less, el))), hs)
    goal_formed core.Return Open n l xs m t h ns ls c s f ex en el far ht w hx hn hk hc hs i =
        (first_formed sizes sees globals bound shared slots total size seen xs hx (omega (arithmetic, ex, f)), hs)
