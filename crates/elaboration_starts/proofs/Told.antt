-- Two executions of Core that do the same: where one looks at the name that tells of an upgrade, the other has the answer written.
use Rattle.std.proofs.Common.{◌≡◌, ℕ, zero, suc, ◌+◌, Bool, true, false, List, [], ◌∷◌, ◌++◌, length, Option, Some, None, slice_get, refl, sym, ap, ◌∙◌, subst, arith}
use Rattle.std.specs.Prelude.{cond, nat_eq}
use Rattle.mo_types.specs.declared.datum.Datum.{Datum}
use Rattle.mo_types.specs.declared.datum.Datum.TheVariants as part
use Rattle.mo_values.specs.Costs.{Cost, weighing}
use Rattle.mo_values.specs.Shapes.{Bytes, unit}
use Rattle.mo_values.specs.Views.{flag_of, natural_of}
use Rattle.mo_actor.specs.Executions.{Progress}
use Rattle.core_ir.specs.declared.constant.Constant.TheVariants as constant
use Rattle.core_ir.specs.declared.primitive.Constructor.{Constructor}
use Rattle.core_ir.specs.declared.primitive.Constructor.TheVariants as constructor
use Rattle.core_ir.specs.declared.primitive.Primitive.{Primitive}
use Rattle.core_ir.specs.Actor as core_actor
use Rattle.core_ir.specs.Calls.{Sent, Sends, Refused, TooLong, NoCall, refusal, sent, Awaited, Suspends, NoRoom, NoFuture, awaited}
use Rattle.core_ir.specs.Choices.{on_some, choose}
use Rattle.core_ir.specs.CoreMachine.{Frame, Arguments, Looping, Labelled, Trying, Caller, Join, Focus, Eval, Give, State, Waiting, Did, at, stuck, is_lone, operated, chosen, matched, entered, called, gather, handed, thrown, left, returned, asked, waits, on_one, act, grouped, eval, give, focused, depth_of, core_machine}
use Rattle.core_ir.specs.Executions.{End, Replies, Rejects, Waits, Traps, Breaks, Go, Ends, heavier, costing, Stand, Still, Over, after_step, run}
use Rattle.core_ir.specs.Expressions.{Exp, Exps, Goal, Body, Core, Constant?, Name, Global, Do, Functions, Loop, Label, Try, NoExp, AnExp, Operate, Choose, Match, Bind, Call, Tabulate, Send, Throw, Await, Break, Return}
use Rattle.core_ir.specs.Gatherings.{Gathering}
use Rattle.core_ir.specs.Messages.{Messages}
use Rattle.core_ir.specs.Openings.{Opened, Inside, Otherwise, NotOne, opened}
use Rattle.core_ir.specs.Primitives as done
use Rattle.core_ir.specs.Primitives.{Done, Gives, Prints, Fails, perform}
use Rattle.core_ir.specs.Programs.{Group}
use Rattle.core_ir.specs.Values.{Value, flag_value, members, number, handle_of}
use Rattle.core_ir.specs.Worlds.{World, Context}
use Rattle.typed_tree.specs.Patterns as pattern
use Rattle.typed_tree.specs.Patterns.{Pat, Pats, Wildcard, Constant, Present?, Tagged, Parts, Fields, Either, NoPat, APat}
use Rattle.elaboration.specs.Checks.{Check, Load, Opens, IsNull, Holds, around_all, fails, Checked, Source, Named, Part, value_of, loads, level_of, names_with, part_of, field_of, literal, check, check_parts, check_fields}
use Rattle.elaboration_steps.proofs.Groups.{last_stands, with_members}

-- ---- code

module _ (table : List (Group Body)) (t : Bool) where
  -- under so many names, of which the one that was there first tells it
  mutual
    pub data Like : ℕ → Exp → Exp → Type 0 where
      Same : (n : ℕ) (e : Exp) → Like n e e
      Told : (n : ℕ) → Like (suc n) (Name n) (Constant? (constant.Leaf (part.Flag t)))
      Bare : (n : ℕ) (g h : Goal) → LikeGoal n g h → Like n (Do g NoExp) (Do h NoExp)
      First : (n : ℕ) (g h : Goal) (e f : Exp) (es : Exps) → LikeGoal n g h → Like n e f → Like n (Do g (AnExp e es)) (Do h (AnExp f es))
      Grouped : (n code : ℕ) (group : Group Body) (b c : Exp) → slice_get table code ≡ Some group → Like (length group.bodies + n) b c → Like n (Functions code b) (Functions code c)

    pub data LikeGoal : ℕ → Goal → Goal → Type 0 where
      SameGoal : (n : ℕ) (g : Goal) → LikeGoal n g g
      InBind : (n : ℕ) (b c : Exp) → Like (suc n) b c → LikeGoal n (Bind b) (Bind c)
      InMatch : (n : ℕ) (k : Constructor) (a b c d : Exp) → Like (suc n) a c → Like n b d → LikeGoal n (Match k a b) (Match k c d)
      InChoose : (n : ℕ) (p : Primitive) (a b c d : Exp) → Like n a c → Like n b d → LikeGoal n (Choose p a b) (Choose p c d)

-- checks that stand around code
abbrev names_after : ℕ → List Check → ℕ
names_after n [] = n
names_after n (Load e ∷ cs) = names_after (suc n) cs
names_after n (Opens c e ∷ cs) = names_after (suc n) cs
names_after n (IsNull e ∷ cs) = names_after n cs
names_after n (Holds p es ∷ cs) = names_after n cs

module _ (table : List (Group Body)) (t : Bool) where
  pub like_around : (n : ℕ) (cs : List Check) (b c : Exp) → Like table t (names_after n cs) b c → Like table t n (around_all cs fails b) (around_all cs fails c)
  like_around n [] b c h = h
  like_around n (Load e ∷ cs) b c h = First n _ _ e e NoExp (InBind n _ _ (like_around (suc n) cs b c h)) (Same n e)
  like_around n (Opens k e ∷ cs) b c h = First n _ _ e e NoExp (InMatch n k _ _ _ _ (like_around (suc n) cs b c h) (Same n fails)) (Same n e)
  like_around n (IsNull e ∷ cs) b c h = First n _ _ e e NoExp (InMatch n constructor.Present _ _ _ _ (Same (suc n) fails) (like_around n cs b c h)) (Same n e)
  like_around n (Holds p NoExp ∷ cs) b c h = Bare n _ _ (InChoose n p _ _ _ _ (like_around n cs b c h) (Same n fails))
  like_around n (Holds p (AnExp e es) ∷ cs) b c h = First n _ _ e e es (InChoose n p _ _ _ _ (like_around n cs b c h) (Same n fails)) (Same n e)

after_both : (n : ℕ) (cs ds : List Check) → names_after n (cs ++ ds) ≡ names_after (names_after n cs) ds
after_both n [] ds = refl
after_both n (Load e ∷ cs) ds = after_both (suc n) cs ds
after_both n (Opens c e ∷ cs) ds = after_both (suc n) cs ds
after_both n (IsNull e ∷ cs) ds = after_both n cs ds
after_both n (Holds p es ∷ cs) ds = after_both n cs ds

loads_counted : (v : Source) (n : ℕ) → names_with v n ≡ names_after n (loads v)
loads_counted (Named level) n = refl
loads_counted (Part e) n = refl

literal_counted : (d : Datum) (e : Exp) (n : ℕ) → n ≡ names_after n (literal d e ∷ [])
literal_counted part.Null e n = refl
literal_counted (part.Flag x) e n = refl
literal_counted (part.Number x) e n = refl
literal_counted (part.Char x) e n = refl
literal_counted (part.Text x) e n = refl
literal_counted (part.Blob x) e n = refl
literal_counted (part.Principal x) e n = refl
literal_counted (part.Actor x) e n = refl
literal_counted (part.Method x y) e n = refl
literal_counted part.Present e n = refl
literal_counted (part.Many x) e n = refl
literal_counted (part.Record x) e n = refl
literal_counted (part.Tag x) e n = refl

two_counted : (n m : ℕ) (cs : List Check) (d : Checked) → m ≡ names_after n cs → d.names ≡ names_after m d.checks → d.names ≡ names_after n (cs ++ d.checks)
two_counted n m cs d p q = q ∙ (ap (λ k. names_after k d.checks) p ∙ sym (after_both n cs d.checks))

-- under so many names stands what follows the checks of a pattern
mutual
  pub names_counted : (p : Pat) (v : Source) (n : ℕ) → (check p v n).names ≡ names_after n (check p v n).checks
  names_counted Wildcard v n = refl
  names_counted pattern.Bind v n = loads_counted v n
  names_counted (Constant d) v n = literal_counted d (value_of v n) n
  names_counted (Present? p) v n = names_counted p (Named n) (suc n)
  names_counted (Tagged l p) v n = names_counted p (Named n) (suc n)
  names_counted (Parts ps) v n = two_counted n (names_with v n) (loads v) (check_parts ps 0 (level_of v n) (names_with v n)) (loads_counted v n) (parts_counted ps 0 (level_of v n) (names_with v n))
  names_counted (Fields ls ps) v n = two_counted n (names_with v n) (loads v) (check_fields ls ps (level_of v n) (names_with v n)) (loads_counted v n) (fields_counted ls ps (level_of v n) (names_with v n))
  names_counted (Either p q) v n = loads_counted v n ∙ sym (after_both n (loads v) _)

  parts_counted : (ps : Pats) (i level n : ℕ) → (check_parts ps i level n).names ≡ names_after n (check_parts ps i level n).checks
  parts_counted NoPat i level n = refl
  parts_counted (APat p ps) i level n =
      let c : Checked = check p (part_of i level n) n in
      two_counted n c.names c.checks (check_parts ps (suc i) level c.names) (names_counted p (part_of i level n) n) (parts_counted ps (suc i) level c.names)

  fields_counted : (ls : List Bytes) (ps : Pats) (level n : ℕ) → (check_fields ls ps level n).names ≡ names_after n (check_fields ls ps level n).checks
  fields_counted ls NoPat level n = refl
  fields_counted [] (APat p ps) level n = refl
  fields_counted (l ∷ ls) (APat p ps) level n =
      let c : Checked = check p (field_of l level n) n in
      two_counted n c.names c.checks (check_fields ls ps level c.names) (names_counted p (field_of l level n) n) (fields_counted ls ps level c.names)

-- ---- states

module _ (program : Core) (context : Context) (nodes : ℕ) (t : Bool) where
  abbrev L : ℕ → Exp → Exp → Type 0
  L = Like program.groups t

  abbrev LG : ℕ → Goal → Goal → Type 0
  LG = LikeGoal program.groups t

  -- the outermost name tells it
  abbrev pub Tells : List Value → Type 0
  Tells env = (us : List Value) × (env ≡ us ++ flag_value t ∷ [])

  pub data LikeStack : List Frame → List Frame → Type 0 where
    Bottom : LikeStack [] []
    OnSame : (f : Frame) (k l : List Frame) → LikeStack k l → LikeStack (f ∷ k) (f ∷ l)
    OnArguments : (n : ℕ) (g h : Goal) (ready : List Value) (es : Exps) (env : List Value) (k l : List Frame) → LG n g h → n ≡ length env → Tells env → LikeStack k l → LikeStack (Arguments g ready es env ∷ k) (Arguments h ready es env ∷ l)

  pub data LikeFocus : Focus → Focus → Type 0 where
    SameFocus : (f : Focus) → LikeFocus f f
    LikeEval : (n : ℕ) (e f : Exp) (env : List Value) → L n e f → n ≡ length env → Tells env → LikeFocus (Eval e env) (Eval f env)

  data SameEnd : End Waiting → End Waiting → Type 0 where
    Equal : (e : End Waiting) → SameEnd e e
    BothWait : (on : Option ℕ) (w v : Waiting) → SameEnd (Waits on w) (Waits on v)

  data LikeDid : Did → Did → Type 0 where
    BothGo : (cost : Cost) (out : List Bytes) (world : World) (f g : Focus) (k l : List Frame) → LikeFocus f g → LikeStack k l → LikeDid (Go cost out world (at program context nodes f k)) (Go cost out world (at program context nodes g l))
    BothEnd : (cost : Cost) (out : List Bytes) (world : World) (e f : End Waiting) → SameEnd e f → LikeDid (Ends cost out world e) (Ends cost out world f)

  data LikeStand : Stand State Waiting → Stand State Waiting → Type 0 where
    BothStill : (w d : ℕ) (prints : List Bytes) (world : World) (s r : State) → LikeStand (Still w d prints world s) (Still w d prints world r)
    BothOver : (w d : ℕ) (prints : List Bytes) (world : World) (e f : End Waiting) → SameEnd e f → LikeStand (Over w d prints world e) (Over w d prints world f)

  abbrev st : World → Did
  st world = stuck program context nodes world

  both_stuck : (world : World) → LikeDid (st world) (st world)
  both_stuck world = BothEnd (weighing 1) [] world Breaks Breaks (Equal Breaks)

  on_like : {A : Type 0} (world : World) (o : Option A) (f g : A → Did) → ((a : A) → LikeDid (f a) (g a)) → LikeDid (on_some (st world) o f) (on_some (st world) o g)
  on_like world None f g h = both_stuck world
  on_like world (Some a) f g h = h a

  cond_like : (b : Bool) (x y v w : Did) → LikeDid x y → LikeDid v w → LikeDid (cond b x v) (cond b y w)
  cond_like true x y v w h i = h
  cond_like false x y v w h i = i

  heavier_like : (n : ℕ) (x y : Did) → LikeDid x y → LikeDid (heavier n x) (heavier n y)
  heavier_like n x y (BothGo cost out world f g k l h s) = BothGo (costing n cost) out world f g k l h s
  heavier_like n x y (BothEnd cost out world e f h) = BothEnd (costing n cost) out world e f h

  goes : (w : ℕ) (world : World) (f : Focus) (k l : List Frame) → LikeStack k l → LikeDid (Go (weighing w) [] world (at program context nodes f k)) (Go (weighing w) [] world (at program context nodes f l))
  goes w world f k l s = BothGo (weighing w) [] world f f k l (SameFocus f) s

  -- ---- what does not look into the code

  operated_like : (world : World) (k l : List Frame) (d : Done) → LikeStack k l → LikeDid (operated program context nodes world k d) (operated program context nodes world l d)
  operated_like world k l (Gives cost v store) s = BothGo cost [] _ (Give v) (Give v) k l (SameFocus (Give v)) s
  operated_like world k l (Prints cost text) s = BothGo cost (text ∷ []) world (Give unit) (Give unit) k l (SameFocus (Give unit)) s
  operated_like world k l (Fails cost text) s = BothEnd cost [] world (Traps text) (Traps text) (Equal (Traps text))
  operated_like world k l done.Stuck s = both_stuck world

  entered_like : (world : World) (g : ℕ) (vs seen : List Value) (gathering : Option Gathering) (k l : List Frame) (bodies : List Body) (m : ℕ) → LikeStack k l → LikeDid (entered program context nodes world g vs seen gathering k bodies m) (entered program context nodes world g vs seen gathering l bodies m)
  entered_like world g vs seen gathering k l bodies m s =
      on_like world (slice_get bodies m) _ _ (λ b. cond_like (nat_eq (length vs) b.parameters) _ _ _ _ (goes (1 + b.nodes) world (Eval b.expression (vs ++ (members g 0 (length bodies) ++ seen))) (Caller b.nodes gathering ∷ k) (Caller b.nodes gathering ∷ l) (OnSame (Caller b.nodes gathering) k l s)) (both_stuck world))

  called_like : (world : World) (f : Value) (vs : List Value) (gathering : Option Gathering) (k l : List Frame) → LikeStack k l → LikeDid (called program context nodes world f vs gathering k) (called program context nodes world f vs gathering l)
  called_like world f vs gathering k l s =
      on_like world (handle_of f) _ _ (λ h. on_like world (slice_get world.groups h.group) _ _ (λ made. on_like world (slice_get program.groups made.code) _ _
      (λ group. cond_like (nat_eq (length made.seen) group.sees) _ _ _ _ (entered_like world h.group vs made.seen gathering k l group.bodies h.member s) (both_stuck world))))

  gather_like : (world : World) (f : Value) (next rest : ℕ) (vs : List Value) (k l : List Frame) → LikeStack k l → LikeDid (gather program context nodes world f next rest vs k) (gather program context nodes world f next rest vs l)
  gather_like world f next zero vs k l s = goes (2 + length vs) world _ k l s
  gather_like world f next (suc rest) vs k l s = called_like world f (number next ∷ []) (Some (record { function = f; next = suc next; remaining = rest; done = vs })) k l s

  handed_like : (world : World) (v : Value) (o : Option Gathering) (k l : List Frame) → LikeStack k l → LikeDid (handed program context nodes world v o k) (handed program context nodes world v o l)
  handed_like world v None k l s = goes 1 world (Give v) k l s
  handed_like world v (Some g) k l s = heavier_like 1 _ _ (gather_like world g.function g.next g.remaining (g.done ++ v ∷ []) k l s)

  thrown_like : (world : World) (v : Value) (k l : List Frame) → LikeStack k l → LikeDid (thrown program context nodes world v k) (thrown program context nodes world v l)
  thrown_like world v k l Bottom = BothEnd (weighing 1) [] world (Rejects v) (Rejects v) (Equal (Rejects v))
  thrown_like world v k l (OnSame (Arguments g ready es env) k' l' s) = thrown_like world v k' l' s
  thrown_like world v k l (OnSame (Looping b env) k' l' s) = thrown_like world v k' l' s
  thrown_like world v k l (OnSame Labelled k' l' s) = thrown_like world v k' l' s
  thrown_like world v k l (OnSame (Trying b env) k' l' s) = goes 1 world (Eval b (v ∷ env)) (Join ∷ k') (Join ∷ l') (OnSame Join k' l' s)
  thrown_like world v k l (OnSame (Caller n g) k' l' s) = both_stuck world
  thrown_like world v k l (OnSame Join k' l' s) = thrown_like world v k' l' s
  thrown_like world v k l (OnArguments n g h ready es env k' l' i e o s) = thrown_like world v k' l' s

  left_like : (world : World) (n : ℕ) (v : Value) (k l : List Frame) → LikeStack k l → LikeDid (left program context nodes world n v k) (left program context nodes world n v l)
  left_like world zero v k l Bottom = both_stuck world
  left_like world (suc n) v k l Bottom = both_stuck world
  left_like world zero v k l (OnSame Labelled k' l' s) = goes 1 world (Give v) k' l' s
  left_like world (suc n) v k l (OnSame Labelled k' l' s) = left_like world n v k' l' s
  left_like world zero v k l (OnSame (Arguments g ready es env) k' l' s) = left_like world zero v k' l' s
  left_like world (suc n) v k l (OnSame (Arguments g ready es env) k' l' s) = left_like world (suc n) v k' l' s
  left_like world zero v k l (OnSame (Looping b env) k' l' s) = left_like world zero v k' l' s
  left_like world (suc n) v k l (OnSame (Looping b env) k' l' s) = left_like world (suc n) v k' l' s
  left_like world zero v k l (OnSame (Trying b env) k' l' s) = left_like world zero v k' l' s
  left_like world (suc n) v k l (OnSame (Trying b env) k' l' s) = left_like world (suc n) v k' l' s
  left_like world zero v k l (OnSame (Caller m g) k' l' s) = both_stuck world
  left_like world (suc n) v k l (OnSame (Caller m g) k' l' s) = both_stuck world
  left_like world zero v k l (OnSame Join k' l' s) = left_like world zero v k' l' s
  left_like world (suc n) v k l (OnSame Join k' l' s) = left_like world (suc n) v k' l' s
  left_like world zero v k l (OnArguments m g h ready es env k' l' i e o s) = left_like world zero v k' l' s
  left_like world (suc n) v k l (OnArguments m g h ready es env k' l' i e o s) = left_like world (suc n) v k' l' s

  returned_like : (world : World) (v : Value) (k l : List Frame) → LikeStack k l → LikeDid (returned program context nodes world v k) (returned program context nodes world v l)
  returned_like world v k l Bottom = BothEnd (weighing 1) [] world (Replies v) (Replies v) (Equal (Replies v))
  returned_like world v k l (OnSame (Arguments g ready es env) k' l' s) = returned_like world v k' l' s
  returned_like world v k l (OnSame (Looping b env) k' l' s) = returned_like world v k' l' s
  returned_like world v k l (OnSame Labelled k' l' s) = returned_like world v k' l' s
  returned_like world v k l (OnSame (Trying b env) k' l' s) = returned_like world v k' l' s
  returned_like world v k l (OnSame (Caller n g) k' l' s) = handed_like world v g k' l' s
  returned_like world v k l (OnSame Join k' l' s) = returned_like world v k' l' s
  returned_like world v k l (OnArguments n g h ready es env k' l' i e o s) = returned_like world v k' l' s

  asked_like : (world : World) (k l : List Frame) (r : Sent) → LikeStack k l → LikeDid (asked program context nodes world k r) (asked program context nodes world l r)
  asked_like world k l (Sends cost later future) s = BothGo cost [] later (Give future) (Give future) k l (SameFocus (Give future)) s
  asked_like world k l Refused s = thrown_like world refusal k l s
  asked_like world k l (TooLong cost) s = BothEnd cost [] world _ _ (Equal _)
  asked_like world k l NoCall s = both_stuck world

  waits_like : (world : World) (k l : List Frame) (r : Awaited) → LikeStack k l → LikeDid (waits program context nodes world k r) (waits program context nodes world l r)
  waits_like world k l (Suspends cost later on) s = BothEnd cost [] later _ _ (BothWait on (record { stack = k; nodes = nodes }) (record { stack = l; nodes = nodes }))
  waits_like world k l NoRoom s = thrown_like world refusal k l s
  waits_like world k l NoFuture s = both_stuck world

  lone_same : (k l : List Frame) → LikeStack k l → is_lone k ≡ is_lone l
  lone_same k l Bottom = refl
  lone_same k l (OnSame (Arguments g ready es env) k' l' s) = lone_same k' l' s
  lone_same k l (OnSame (Looping b env) k' l' s) = lone_same k' l' s
  lone_same k l (OnSame Labelled k' l' s) = lone_same k' l' s
  lone_same k l (OnSame (Trying b env) k' l' s) = lone_same k' l' s
  lone_same k l (OnSame (Caller n g) k' l' s) = refl
  lone_same k l (OnSame Join k' l' s) = lone_same k' l' s
  lone_same k l (OnArguments n g h ready es env k' l' i e o s) = lone_same k' l' s

  -- the same code, wherever it stands
  act_same : (world : World) (g : Goal) (vs env : List Value) (k l : List Frame) → LikeStack k l → LikeDid (act program context nodes world g vs env k) (act program context nodes world g vs env l)
  act_same world (Operate p) vs env k l s = operated_like world k l (perform context.head world.store p vs) s
  act_same world (Choose p a b) vs env k l s = by (perform context.head world.store p vs)
    where
      by : (d : Done) → LikeDid (chosen program context nodes world a b env k d) (chosen program context nodes world a b env l d)
      by (Gives cost v store) = on_like world (flag_of v) _ _ (λ c. BothGo cost [] _ _ _ (Join ∷ k) (Join ∷ l) (SameFocus (Eval (choose c a b) env)) (OnSame Join k l s))
      by (Prints cost text) = both_stuck world
      by (Fails cost text) = BothEnd cost [] world (Traps text) (Traps text) (Equal (Traps text))
      by done.Stuck = both_stuck world
  act_same world (Match c a b) [] env k l s = both_stuck world
  act_same world (Match c a b) (v ∷ []) env k l s = by (opened c v)
    where
      by : (o : Opened) → LikeDid (matched program context nodes world a b env k o) (matched program context nodes world a b env l o)
      by (Inside u) = goes 1 world (Eval a (u ∷ env)) (Join ∷ k) (Join ∷ l) (OnSame Join k l s)
      by Otherwise = goes 1 world (Eval b env) (Join ∷ k) (Join ∷ l) (OnSame Join k l s)
      by NotOne = both_stuck world
  act_same world (Match c a b) (v ∷ u ∷ vs) env k l s = both_stuck world
  act_same world (Bind b) [] env k l s = both_stuck world
  act_same world (Bind b) (v ∷ []) env k l s = goes 1 world (Eval b (v ∷ env)) k l s
  act_same world (Bind b) (v ∷ u ∷ vs) env k l s = both_stuck world
  act_same world Call [] env k l s = both_stuck world
  act_same world Call (f ∷ vs) env k l s = called_like world f vs None k l s
  act_same world Tabulate [] env k l s = both_stuck world
  act_same world Tabulate (v ∷ []) env k l s = both_stuck world
  act_same world Tabulate (v ∷ f ∷ []) env k l s = on_like world (natural_of v) _ _ (λ n. heavier_like 1 _ _ (gather_like world f 0 n [] k l s))
  act_same world Tabulate (v ∷ f ∷ u ∷ vs) env k l s = both_stuck world
  act_same world (Send signature) [] env k l s = both_stuck world
  act_same world (Send signature) (f ∷ vs) env k l s = asked_like world k l (sent context world signature f vs) s
  act_same world Throw [] env k l s = both_stuck world
  act_same world Throw (v ∷ []) env k l s = thrown_like world v k l s
  act_same world Throw (v ∷ u ∷ vs) env k l s = both_stuck world
  act_same world Await vs env k l s =
      subst (λ b. LikeDid (cond (is_lone k) (on_one program context nodes world vs (λ v. waits program context nodes world k (awaited context world nodes v))) (st world)) (cond b (on_one program context nodes world vs (λ v. waits program context nodes world l (awaited context world nodes v))) (st world))) (lone_same k l s)
      (cond_like (is_lone k) _ _ _ _ (by vs) (both_stuck world))
    where
      by : (vs : List Value) → LikeDid (on_one program context nodes world vs (λ v. waits program context nodes world k (awaited context world nodes v))) (on_one program context nodes world vs (λ v. waits program context nodes world l (awaited context world nodes v)))
      by [] = both_stuck world
      by (v ∷ []) = waits_like world k l (awaited context world nodes v) s
      by (v ∷ u ∷ vs) = both_stuck world
  act_same world (Break n) [] env k l s = both_stuck world
  act_same world (Break n) (v ∷ []) env k l s = left_like world n v k l s
  act_same world (Break n) (v ∷ u ∷ vs) env k l s = both_stuck world
  act_same world Return [] env k l s = both_stuck world
  act_same world Return (v ∷ []) env k l s = returned_like world v k l s
  act_same world Return (v ∷ u ∷ vs) env k l s = both_stuck world

  eval_same : (world : World) (e : Exp) (env : List Value) (k l : List Frame) → LikeStack k l → LikeDid (eval program context nodes world e env k) (eval program context nodes world e env l)
  eval_same world (Constant? c) env k l s = goes 0 world _ k l s
  eval_same world (Name x) env k l s = on_like world (slice_get env x) _ _ (λ v. goes 0 world (Give v) k l s)
  eval_same world (Global i) env k l s = on_like world (slice_get context.globals i) _ _ (λ v. goes 0 world (Give v) k l s)
  eval_same world (Do g NoExp) env k l s = act_same world g [] env k l s
  eval_same world (Do g (AnExp e es)) env k l s = goes 0 world (Eval e env) _ _ (OnSame (Arguments g [] es env) k l s)
  eval_same world (Functions code b) env k l s = on_like world (slice_get program.groups code) _ _ (λ group. BothGo _ [] _ _ _ k l (SameFocus (Eval b (members (length world.groups) 0 (length group.bodies) ++ env))) s)
  eval_same world (Loop b) env k l s = goes 1 world (Eval b env) _ _ (OnSame (Looping b env) k l s)
  eval_same world (Label b) env k l s = goes 1 world (Eval b env) _ _ (OnSame Labelled k l s)
  eval_same world (Try a b) env k l s = goes 1 world (Eval a env) _ _ (OnSame (Trying b env) k l s)

  -- ---- code that differs

  tells_more : (v : Value) (env : List Value) → Tells env → Tells (v ∷ env)
  tells_more v env (us, e) = (v ∷ us, ap (λ r. v ∷ r) e)

  tells_all : (ws env : List Value) → Tells env → Tells (ws ++ env)
  tells_all [] env h = h
  tells_all (w ∷ ws) env h = tells_more w (ws ++ env) (tells_all ws env h)

  act_like : (world : World) (n : ℕ) (g h : Goal) (vs env : List Value) (k l : List Frame) → LG n g h → n ≡ length env → Tells env → LikeStack k l → LikeDid (act program context nodes world g vs env k) (act program context nodes world h vs env l)
  act_like world n g h vs env k l (SameGoal m x) e o s = act_same world x vs env k l s
  act_like world n g h [] env k l (InBind m b c i) e o s = both_stuck world
  act_like world n g h (v ∷ []) env k l (InBind m b c i) e o s = BothGo (weighing 1) [] world _ _ k l (LikeEval (suc n) b c (v ∷ env) i (ap (λ n. suc n) e) (tells_more v env o)) s
  act_like world n g h (v ∷ u ∷ vs) env k l (InBind m b c i) e o s = both_stuck world
  act_like world n g h [] env k l (InMatch m c x y z w i j) e o s = both_stuck world
  act_like world n g h (v ∷ []) env k l (InMatch m c x y z w i j) e o s = by (opened c v)
    where
      by : (q : Opened) → LikeDid (matched program context nodes world x y env k q) (matched program context nodes world z w env l q)
      by (Inside u) = BothGo (weighing 1) [] world _ _ (Join ∷ k) (Join ∷ l) (LikeEval (suc n) x z (u ∷ env) i (ap (λ n. suc n) e) (tells_more u env o)) (OnSame Join k l s)
      by Otherwise = BothGo (weighing 1) [] world _ _ (Join ∷ k) (Join ∷ l) (LikeEval n y w env j e o) (OnSame Join k l s)
      by NotOne = both_stuck world
  act_like world n g h (v ∷ u ∷ vs) env k l (InMatch m c x y z w i j) e o s = both_stuck world
  act_like world n g h vs env k l (InChoose m p x y z w i j) e o s = by (perform context.head world.store p vs)
    where
      one : (c : Bool) → LikeFocus (Eval (choose c x y) env) (Eval (choose c z w) env)
      one true = LikeEval n x z env i e o
      one false = LikeEval n y w env j e o

      by : (d : Done) → LikeDid (chosen program context nodes world x y env k d) (chosen program context nodes world z w env l d)
      by (Gives cost v store) = on_like world (flag_of v) _ _ (λ c. BothGo cost [] _ _ _ (Join ∷ k) (Join ∷ l) (one c) (OnSame Join k l s))
      by (Prints cost text) = both_stuck world
      by (Fails cost text) = BothEnd cost [] world (Traps text) (Traps text) (Equal (Traps text))
      by done.Stuck = both_stuck world

  suc_same : (m n : ℕ) → suc m ≡ suc n → m ≡ n
  suc_same m n e = omega (arith, e)

  eval_like : (world : World) (n : ℕ) (e f : Exp) (env : List Value) (k l : List Frame) → L n e f → n ≡ length env → Tells env → LikeStack k l → LikeDid (eval program context nodes world e env k) (eval program context nodes world f env l)
  eval_like world n e f env k l (Same m x) q o s = eval_same world x env k l s
  eval_like world n e f env k l (Told m) q (us, is) s =
      subst (λ r. LikeDid (on_some (st world) r (λ v. Go (weighing 0) [] world (at program context nodes (Give v) k))) (Go (weighing 0) [] world (at program context nodes (Give (flag_value t)) l))) (sym here)
      (goes 0 world (Give (flag_value t)) k l s)
    where
      at_last : length env ≡ suc (length us)
      at_last = ap length is ∙ longer us
        where
          longer : (us : List Value) → length (us ++ flag_value t ∷ []) ≡ suc (length us)
          longer [] = refl
          longer (u ∷ us) = ap (λ n. suc n) (longer us)

      here : slice_get env m ≡ Some (flag_value t)
      here = subst (λ r. slice_get r m ≡ Some (flag_value t)) (sym is) (subst (λ j. slice_get (us ++ flag_value t ∷ []) j ≡ Some (flag_value t)) (sym (suc_same m (length us) (q ∙ at_last))) (last_stands us (flag_value t)))
  eval_like world n e f env k l (Bare m g h i) q o s = act_like world n g h [] env k l i q o s
  eval_like world n e f env k l (First m g h x y es i j) q o s = BothGo (weighing 0) [] world _ _ _ _ (LikeEval n x y env j q o) (OnArguments n g h [] es env k l i q o s)
  eval_like world n e f env k l (Grouped m code group x y there i) q o s =
      subst (λ r. LikeDid (on_some (st world) r (λ group. grouped program context nodes world code x env k group.bodies)) (on_some (st world) r (λ group. grouped program context nodes world code y env l group.bodies))) (sym there)
      (BothGo _ [] _ _ _ k l (LikeEval (length group.bodies + n) x y (members (length world.groups) 0 (length group.bodies) ++ env) i
      (let z : length (members (length world.groups) 0 (length group.bodies) ++ env) ≡ length group.bodies + length env = with_members (length world.groups) 0 (length group.bodies) env in omega (arith, z, q)) (tells_all (members (length world.groups) 0 (length group.bodies)) env o)) s)

  give_like : (world : World) (v : Value) (k l : List Frame) → LikeStack k l → LikeDid (give program context nodes world v k) (give program context nodes world v l)
  give_like world v k l Bottom = BothEnd (weighing 1) [] world (Replies v) (Replies v) (Equal (Replies v))
  give_like world v k l (OnSame (Arguments g ready NoExp env) k' l' s) = act_same world g (ready ++ v ∷ []) env k' l' s
  give_like world v k l (OnSame (Arguments g ready (AnExp e es) env) k' l' s) = goes 0 world (Eval e env) _ _ (OnSame (Arguments g (ready ++ v ∷ []) es env) k' l' s)
  give_like world v k l (OnSame (Looping b env) k' l' s) = goes 1 world (Eval b env) _ _ (OnSame (Looping b env) k' l' s)
  give_like world v k l (OnSame Labelled k' l' s) = goes 0 world (Give v) k' l' s
  give_like world v k l (OnSame (Trying b env) k' l' s) = goes 1 world (Give v) k' l' s
  give_like world v k l (OnSame (Caller n g) k' l' s) = handed_like world v g k' l' s
  give_like world v k l (OnSame Join k' l' s) = goes 0 world (Give v) k' l' s
  give_like world v k l (OnArguments n g h ready NoExp env k' l' i e o s) = act_like world n g h (ready ++ v ∷ []) env k' l' i e o s
  give_like world v k l (OnArguments n g h ready (AnExp x es) env k' l' i e o s) = goes 0 world (Eval x env) _ _ (OnArguments n g h (ready ++ v ∷ []) es env k' l' i e o s)

  steps_like : (world : World) (f g : Focus) (k l : List Frame) → LikeFocus f g → LikeStack k l → LikeDid (focused program context nodes world f k) (focused program context nodes world g l)
  steps_like world f g k l (SameFocus (Eval e env)) s = eval_same world e env k l s
  steps_like world f g k l (SameFocus (Give v)) s = give_like world v k l s
  steps_like world f g k l (LikeEval n x y env i q o) s = eval_like world n x y env k l i q o s

  -- ---- runs

  depth_same : (k l : List Frame) → LikeStack k l → depth_of k ≡ depth_of l
  depth_same k l Bottom = refl
  depth_same k l (OnSame (Arguments g ready es env) k' l' s) = depth_same k' l' s
  depth_same k l (OnSame (Looping b env) k' l' s) = depth_same k' l' s
  depth_same k l (OnSame Labelled k' l' s) = depth_same k' l' s
  depth_same k l (OnSame (Trying b env) k' l' s) = depth_same k' l' s
  depth_same k l (OnSame (Caller n g) k' l' s) = ap (λ d. 16 + n + d) (depth_same k' l' s)
  depth_same k l (OnSame Join k' l' s) = depth_same k' l' s
  depth_same k l (OnArguments n g h ready es env k' l' i e o s) = depth_same k' l' s

  runs_like : (i w d : ℕ) (prints : List Bytes) (world : World) (f g : Focus) (k l : List Frame) → LikeFocus f g → LikeStack k l
      → LikeStand (run (core_machine program) context i w d prints world (at program context nodes f k)) (run (core_machine program) context i w d prints world (at program context nodes g l))
  runs_like zero w d prints world f g k l h s = BothStill w d prints world _ _
  runs_like (suc i) w d prints world f g k l h s =
      subst (λ n. LikeStand (after_step (run (core_machine program) context i) (16 + nodes + depth_of k) w d prints (focused program context nodes world f k)) (after_step (run (core_machine program) context i) (16 + nodes + n) w d prints (focused program context nodes world g l))) (depth_same k l s)
      (by (focused program context nodes world f k) (focused program context nodes world g l) (runs_like i) (steps_like world f g k l h s))
    where
      Later : Type 0
      Later = (w d : ℕ) (prints : List Bytes) (world : World) (f g : Focus) (k l : List Frame) → LikeFocus f g → LikeStack k l
          → LikeStand (run (core_machine program) context i w d prints world (at program context nodes f k)) (run (core_machine program) context i w d prints world (at program context nodes g l))

      by : (x y : Did) → Later → LikeDid x y → LikeStand (after_step (run (core_machine program) context i) (16 + nodes + depth_of k) w d prints x) (after_step (run (core_machine program) context i) (16 + nodes + depth_of k) w d prints y)
      by x y later (BothGo cost out world' f' g' k' l' h' s') = later _ _ _ world' f' g' k' l' h' s'
      by x y later (BothEnd cost out world' e e' q) = BothOver _ _ _ world' e e' q

  -- a start shows the same
  module _ {K : Type 0} (messages : Messages K) where
    abbrev Y : Stand State Waiting → Progress core_actor.Fields
    Y = core_actor.start_progress (core_machine program) messages program

    stands_same : (x y : Stand State Waiting) → LikeStand x y → Y x ≡ Y y
    stands_same x y (BothStill w d prints world s r) = refl
    stands_same x y (BothOver w d prints world e f (Equal o)) = refl
    stands_same x y (BothOver w d prints world e f (BothWait on v u)) = refl

    pub starts_same : (i w d : ℕ) (prints : List Bytes) (world : World) (e f : Exp) (env : List Value) → L (length env) e f → Tells env
        → Y (run (core_machine program) context i w d prints world (at program context nodes (Eval e env) [])) ≡ Y (run (core_machine program) context i w d prints world (at program context nodes (Eval f env) []))
    starts_same i w d prints world e f env h o = stands_same _ _ (runs_like i w d prints world (Eval e env) (Eval f env) [] [] (LikeEval (length env) e f env h refl o) Bottom)
