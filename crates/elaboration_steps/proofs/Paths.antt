-- Ways of Core to a state that belongs to one of the source, made from its end.
use Rattle.std.proofs.Common.{◌≡◌, ◌⊎◌, inl, inr, ℕ, suc, ◌+◌, ◌*◌, ◌≤◌, Bool, true, false, List, [], ◌∷◌, ◌++◌, refl, ap, arith}
use Rattle.mo_values.specs.Costs.{Cost, weighing}
use Rattle.mo_values.specs.Shapes.{Bytes}
use Rattle.core_ir.specs.Worlds.{World, Context}
use Rattle.core_ir.specs.Executions.{End, Go, Ends}
use Rattle.core_ir.specs.Expressions.{Core}
use Rattle.core_ir.specs.CoreMachine.{Frame, Focus, Waiting, focused, at, depth_of}
use Rattle.mo_machine.specs.Acts.{Store, Act, Goes, Prints, Asks, Awaits, Leaves, Throws, Traps, Stuck}
use Rattle.mo_machine.specs.Frames as machine
use Rattle.mo_machine.specs.Frames.{Stack}
use Rattle.elaboration.specs.Meeting as meeting
use Rattle.elaboration.specs.Meeting.{Comes, There}
use Rattle.elaboration_values.specs.Belonging.{Known}
use Rattle.elaboration_steps.specs.Stacks.{WorldBelongs, StateBelongs, Standing, Here}
use Rattle.elaboration_steps.specs.Follows.{Start, rank, owed, Leads, Waits, Plainly, Doing, NoDeeper, Follows, AsDeep, InBody, Stops, Acts}
use Rattle.elaboration_steps.proofs.StateDepth.{no_deeper}

pub nothing_more : {A : Type 0} (xs : List A) → xs ≡ xs ++ []
nothing_more [] = refl
nothing_more (x ∷ xs) = ap (λ r. x ∷ r) (nothing_more xs)

module _ (program : Core) (context : Context) (nodes : ℕ) where
  -- ---- a step before

  leads_ahead : (w : ℕ) (moved : Bool) (weight levels : ℕ) (out : List Bytes) (world : World) (f : Focus) (k : List Frame) (f1 : Focus) (k1 : List Frame) (world' : World) (g : Focus) (l : List Frame)
      → focused program context nodes world f k ≡ Go (weighing w) [] world (at program context nodes f1 k1) → depth_of k ≡ depth_of k1
      → Leads program context nodes moved weight levels out world f1 k1 world' g l → Leads program context nodes true (w + weight) levels out world f k world' g l
  leads_ahead w moved weight levels out world f k f1 k1 world' g l eq deep (Waits a c o h j) = Plainly w 0 (w + a) c o f k h j h j eq deep (There 0 h j) (omega arith)
  leads_ahead w moved weight levels out world f k f1 k1 world' g l eq deep (Plainly m n a c o h j h1 j1 i r e d p le) =
      Plainly w (m + n) (w + a) c o f k h j i r eq deep (meeting.Goes (m + n) m n h j h1 j1 i r e d (omega arith) p) (omega (arith, le))
  leads_ahead w moved weight levels out world f k f1 k1 world' g l eq deep (Doing m n a c cost u o h j h1 j1 o' h2 j2 i r p e q le lv) =
      Doing (w + m) n (w + a) c cost u o f k h1 j1 o' h2 j2 i r (meeting.Goes (w + m) w m f k h j h1 j1 eq deep (omega arith) p) e q (omega (arith, le)) lv

  level_ahead : (ck ck1 ck' : List Frame) (f : machine.Focus) (k : Stack) → depth_of ck ≡ depth_of ck1 → NoDeeper program context nodes ck1 ck' f k → NoDeeper program context nodes ck ck' f k
  level_ahead ck ck1 ck' f k same (inl h) = inl (omega (arith, h, same))
  level_ahead ck ck1 ck' f k same (inr h) = inr h

  pub follows_ahead : (w : ℕ) (before : Start) (spent total levels : ℕ) (out : List Bytes) (known : List Known) (world : World) (cf : Focus) (ck : List Frame) (cf1 : Focus) (ck1 : List Frame) (store : Store) (f : machine.Focus) (k : Stack)
      → focused program context nodes world cf ck ≡ Go (weighing w) [] world (at program context nodes cf1 ck1) → depth_of ck ≡ depth_of ck1
      → Follows program context nodes before (spent + w) total levels out known world cf1 ck1 store f k → Follows program context nodes before spent total levels out known world cf ck store f k
  follows_ahead w before spent total levels out known world cf ck cf1 ck1 store f k eq deep r = record {
    moved = true;
    weight = w + r.weight;
    held' = r.held';
    known' = r.known';
    world' = r.world';
    cf' = r.cf';
    ck' = r.ck';
    path = leads_ahead w r.moved r.weight levels out world cf ck cf1 ck1 r.world' r.cf' r.ck' eq deep r.path;
    level = level_ahead ck ck1 r.ck' f k deep r.level;
    pays = let h : spent + w + r.weight + r.held' ≤ total + owed k = r.pays in omega (arith, h);
    falls = λ e. absurd (let z : true ≡ false = e in cc);
    grows = r.grows;
    requests = r.requests;
    stands = r.stands;
  }

  stops_ahead : (w : ℕ) (before : Start) (spent total levels : ℕ) (world : World) (cf : Focus) (ck : List Frame) (cf1 : Focus) (ck1 : List Frame) (end : End Waiting)
      → focused program context nodes world cf ck ≡ Go (weighing w) [] world (at program context nodes cf1 ck1) → depth_of ck ≡ depth_of ck1
      → Stops program context nodes before (spent + w) total levels world cf1 ck1 end → Stops program context nodes before spent total levels world cf ck end
  stops_ahead w before spent total levels world cf ck cf1 ck1 end eq deep r = record {
    moved = true;
    weight = w + r.weight;
    through = r.through;
    cost = r.cost;
    cf' = r.cf';
    ck' = r.ck';
    path = leads_ahead w r.moved r.weight r.through [] world cf ck cf1 ck1 world r.cf' r.ck' eq deep r.path;
    ends = r.ends;
    level = at r.level;
    pays = let h : spent + w + r.weight + r.cost.weight ≤ total = r.pays in omega (arith, h);
  }
    where
      at : AsDeep program context nodes levels r.through r.cost.levels ck1 r.ck' ⊎ InBody program context nodes before levels r.through r.cost.levels r.ck' → AsDeep program context nodes levels r.through r.cost.levels ck r.ck' ⊎ InBody program context nodes before levels r.through r.cost.levels r.ck'
      at (inl (a, b, h)) = inl (a, b, omega (arith, h, deep))
      at (inr h) = inr h

  -- more has been spent
  follows_sooner : (a b : ℕ) (before : Start) (total levels : ℕ) (out : List Bytes) (known : List Known) (world : World) (cf : Focus) (ck : List Frame) (store : Store) (f : machine.Focus) (k : Stack) → b ≤ a
      → Follows program context nodes before a total levels out known world cf ck store f k → Follows program context nodes before b total levels out known world cf ck store f k
  follows_sooner a b before total levels out known world cf ck store f k le r = record {
    moved = r.moved;
    weight = r.weight;
    held' = r.held';
    known' = r.known';
    world' = r.world';
    cf' = r.cf';
    ck' = r.ck';
    path = r.path;
    level = r.level;
    pays = let h : a + r.weight + r.held' ≤ total + owed k = r.pays in omega (arith, h, le);
    falls = r.falls;
    grows = r.grows;
    requests = r.requests;
    stands = r.stands;
  }

  stops_sooner : (a b : ℕ) (before : Start) (total levels : ℕ) (world : World) (cf : Focus) (ck : List Frame) (end : End Waiting) → b ≤ a
      → Stops program context nodes before a total levels world cf ck end → Stops program context nodes before b total levels world cf ck end
  stops_sooner a b before total levels world cf ck end le r =
      record { moved = r.moved; weight = r.weight; through = r.through; cost = r.cost; cf' = r.cf'; ck' = r.ck'; path = r.path; ends = r.ends; level = r.level; pays = let h : a + r.weight + r.cost.weight ≤ total = r.pays in omega (arith, h, le) }

  -- after steps that leave the world as it is
  pub follows_behind : (world : World) (n : ℕ) (before : Start) (spent total levels : ℕ) (out : List Bytes) (known : List Known) (cf : Focus) (ck : List Frame) (cf1 : Focus) (ck1 : List Frame) (store : Store) (f : machine.Focus) (k : Stack) → Comes program context nodes world n cf ck cf1 ck1
      → Follows program context nodes before (spent + n) total levels out known world cf1 ck1 store f k → Follows program context nodes before spent total levels out known world cf ck store f k
  follows_behind world n before spent total levels out known cf ck cf1 ck1 store f k (There m g l) r = follows_sooner (spent + m) spent before total levels out known world g l store f k (omega arith) r
  follows_behind world n before spent total levels out known cf ck cf1 ck1 store f k (meeting.Goes m w p e i e' i' g l eq deep le c) r =
      follows_ahead w before spent total levels out known world e i e' i' store f k eq deep
      (follows_behind world p before (spent + w) total levels out known e' i' g l store f k c (follows_sooner (spent + m) (spent + w + p) before total levels out known world g l store f k (omega (arith, le)) r))

  module _ (before : Start) (held : ℕ) (known : List Known) (world : World) (store : Store) (k0 : Stack) where
    abbrev A : ℕ → Focus → List Frame → Act → Type 0
    A = Acts program context nodes before held known world store k0

    pub acts_sooner : (a b : ℕ) (cf : Focus) (ck : List Frame) (act : Act) → b ≤ a → A a cf ck act → A b cf ck act
    acts_sooner a b cf ck (Goes cost later f k) le r =
        follows_sooner (a + owed k0) (b + owed k0) before (2 * cost.weight + held) cost.levels [] known world cf ck later f k (omega (arith, le)) r
    acts_sooner a b cf ck (Prints cost text f k) le r =
        follows_sooner (a + owed k0) (b + owed k0) before (2 * cost.weight + held) cost.levels (text ∷ []) known world cf ck store f k (omega (arith, le)) r
    acts_sooner a b cf ck (Traps cost text) le r = stops_sooner a b before (2 * cost.weight + held) cost.levels world cf ck _ le r
    acts_sooner a b cf ck (Throws cost error) le r = (r.0, r.1, stops_sooner a b before (2 * cost.weight + held) cost.levels world cf ck _ le (r.2), r.3)
    acts_sooner a b cf ck (Asks request) le r = tt
    acts_sooner a b cf ck (Awaits n call) le r = tt
    acts_sooner a b cf ck (Leaves labels v) le r = tt
    acts_sooner a b cf ck Stuck le r = tt

    pub acts_ahead : (w spent : ℕ) (cf : Focus) (ck : List Frame) (cf1 : Focus) (ck1 : List Frame) (act : Act)
        → focused program context nodes world cf ck ≡ Go (weighing w) [] world (at program context nodes cf1 ck1) → depth_of ck ≡ depth_of ck1 → A (spent + w) cf1 ck1 act → A spent cf ck act
    acts_ahead w spent cf ck cf1 ck1 (Goes cost later f k) eq deep r =
        follows_ahead w before (spent + owed k0) (2 * cost.weight + held) cost.levels [] known world cf ck cf1 ck1 later f k eq deep
        (follows_sooner (spent + w + owed k0) (spent + owed k0 + w) before (2 * cost.weight + held) cost.levels [] known world cf1 ck1 later f k (omega arith) r)
    acts_ahead w spent cf ck cf1 ck1 (Prints cost text f k) eq deep r =
        follows_ahead w before (spent + owed k0) (2 * cost.weight + held) cost.levels (text ∷ []) known world cf ck cf1 ck1 store f k eq deep
        (follows_sooner (spent + w + owed k0) (spent + owed k0 + w) before (2 * cost.weight + held) cost.levels (text ∷ []) known world cf1 ck1 store f k (omega arith) r)
    acts_ahead w spent cf ck cf1 ck1 (Traps cost text) eq deep r = stops_ahead w before spent (2 * cost.weight + held) cost.levels world cf ck cf1 ck1 _ eq deep r
    acts_ahead w spent cf ck cf1 ck1 (Throws cost error) eq deep r = (r.0, r.1, stops_ahead w before spent (2 * cost.weight + held) cost.levels world cf ck cf1 ck1 _ eq deep (r.2), r.3)
    acts_ahead w spent cf ck cf1 ck1 (Asks request) eq deep r = tt
    acts_ahead w spent cf ck cf1 ck1 (Awaits n call) eq deep r = tt
    acts_ahead w spent cf ck cf1 ck1 (Leaves labels v) eq deep r = tt
    acts_ahead w spent cf ck cf1 ck1 Stuck eq deep r = tt

    -- steps that leave the world as it is
    pub acts_behind : (n spent : ℕ) (cf : Focus) (ck : List Frame) (cf1 : Focus) (ck1 : List Frame) (act : Act) → Comes program context nodes world n cf ck cf1 ck1 → A (spent + n) cf1 ck1 act → A spent cf ck act
    acts_behind n spent cf ck cf1 ck1 act (There m g l) r = acts_sooner (spent + m) spent g l act (omega arith) r
    acts_behind n spent cf ck cf1 ck1 act (meeting.Goes m w p f k f' k' g l eq deep le c) r =
        acts_ahead w spent f k f' k' act eq deep (acts_behind p (spent + w) f' k' g l act c (acts_sooner (spent + m) (spent + w + p) g l act (omega (arith, le)) r))

  -- ---- ends of ways

  -- Core stands there already
  pub waits_in : (before : Start) (spent total levels held' : ℕ) (known : List Known) (world : World) (cf : Focus) (ck : List Frame) (store : Store) (f : machine.Focus) (k : Stack)
      → spent + held' ≤ total + owed k → suc (rank f k) ≤ before.most → Standing program context nodes world known held' store f k cf ck → Follows program context nodes before spent total levels [] known world cf ck store f k
  waits_in before spent total levels held' known world cf ck store f k le fall stands = record {
    moved = false;
    weight = 0;
    held' = held';
    known' = known;
    world' = world;
    cf' = cf;
    ck' = ck;
    path = Waits 0 levels world cf ck;
    level = inl (omega arith);
    pays = omega (arith, le);
    falls = λ e. fall;
    grows = ([], nothing_more known);
    requests = refl;
    stands = stands;
  }

  pub waits : (before : Start) (spent total levels held' : ℕ) (known : List Known) (world : World) (cf : Focus) (ck : List Frame) (store : Store) (f : machine.Focus) (k : Stack)
      → spent + held' ≤ total + owed k → suc (rank f k) ≤ before.most → WorldBelongs program.groups known context.globals store world → StateBelongs program context nodes world known held' f k cf ck
      → Follows program context nodes before spent total levels [] known world cf ck store f k
  waits before spent total levels held' known world cf ck store f k le fall worlds state =
      waits_in before spent total levels held' known world cf ck store f k le fall (Here store f k cf ck worlds state)

  -- a step without an effect
  pub steps : (w : ℕ) (before : Start) (spent total levels held' : ℕ) (known : List Known) (world : World) (cf : Focus) (ck : List Frame) (cf1 : Focus) (ck1 : List Frame) (store : Store) (f : machine.Focus) (k : Stack)
      → focused program context nodes world cf ck ≡ Go (weighing w) [] world (at program context nodes cf1 ck1) → depth_of ck ≡ depth_of ck1 → spent + w + held' ≤ total + owed k
      → WorldBelongs program.groups known context.globals store world → StateBelongs program context nodes world known held' f k cf1 ck1
      → Follows program context nodes before spent total levels [] known world cf ck store f k
  steps w before spent total levels held' known world cf ck cf1 ck1 store f k eq deep le worlds state = record {
    moved = true;
    weight = w;
    held' = held';
    known' = known;
    world' = world;
    cf' = cf1;
    ck' = ck1;
    path = Plainly w 0 w levels world cf ck cf1 ck1 cf1 ck1 eq deep (There 0 cf1 ck1) (omega arith);
    level = inl (omega (arith, deep));
    pays = le;
    falls = λ e. absurd (let z : true ≡ false = e in cc);
    grows = ([], nothing_more known);
    requests = refl;
    stands = Here store f k cf1 ck1 worlds state;
  }

  -- a step with an effect
  pub does : (before : Start) (spent total levels held' : ℕ) (cost : Cost) (out : List Bytes) (known known' : List Known) (world world' : World) (cf : Focus) (ck : List Frame) (cf1 : Focus) (ck1 : List Frame) (store : Store) (f : machine.Focus) (k : Stack)
      → focused program context nodes world cf ck ≡ Go cost out world' (at program context nodes cf1 ck1) → spent + cost.weight + held' ≤ total + owed k → cost.levels ≤ levels → (more : List Known) × (known' ≡ known ++ more) → world'.requests ≡ world.requests
      → WorldBelongs program.groups known' context.globals store world' → StateBelongs program context nodes world' known' held' f k cf1 ck1
      → Follows program context nodes before spent total levels out known world cf ck store f k
  does before spent total levels held' cost out known known' world world' cf ck cf1 ck1 store f k eq le lv grows requests worlds state = record {
    moved = true;
    weight = cost.weight;
    held' = held';
    known' = known';
    world' = world';
    cf' = cf1;
    ck' = ck1;
    path = Doing 0 0 cost.weight levels cost out world cf ck cf ck world' cf1 ck1 cf1 ck1 (There 0 cf ck) eq (There 0 cf1 ck1) (omega arith) lv;
    level = no_deeper program context nodes world' known' held' f k cf1 ck ck1 state;
    pays = le;
    falls = λ e. absurd (let z : true ≡ false = e in cc);
    grows = grows;
    requests = requests;
    stands = Here store f k cf1 ck1 worlds state;
  }

  -- it ends
  pub stops : (before : Start) (spent total levels : ℕ) (cost : Cost) (world : World) (cf : Focus) (ck : List Frame) (end : End Waiting)
      → focused program context nodes world cf ck ≡ Ends cost [] world end → spent + cost.weight ≤ total → cost.levels ≤ levels → Stops program context nodes before spent total levels world cf ck end
  stops before spent total levels cost world cf ck end eq le lv =
      record { moved = false; weight = 0; through = levels; cost = cost; cf' = cf; ck' = ck; path = Waits 0 levels world cf ck; ends = eq; level = inl (omega arith, lv, omega arith); pays = omega (arith, le) }

  -- after a step, and others that leave the world as it is
  pub does_then_in : (n : ℕ) (before : Start) (spent total levels held' : ℕ) (cost : Cost) (out : List Bytes) (known known' : List Known) (world world' : World) (cf : Focus) (ck : List Frame) (cf1 : Focus) (ck1 : List Frame) (cf2 : Focus) (ck2 : List Frame) (store : Store) (f : machine.Focus) (k : Stack)
      → focused program context nodes world cf ck ≡ Go cost out world' (at program context nodes cf1 ck1) → Comes program context nodes world' n cf1 ck1 cf2 ck2 → spent + (cost.weight + n) + held' ≤ total + owed k → cost.levels ≤ levels
      → (more : List Known) × (known' ≡ known ++ more) → world'.requests ≡ world.requests → NoDeeper program context nodes ck ck2 f k → Standing program context nodes world' known' held' store f k cf2 ck2
      → Follows program context nodes before spent total levels out known world cf ck store f k
  does_then_in n before spent total levels held' cost out known known' world world' cf ck cf1 ck1 cf2 ck2 store f k eq path le lv grows requests level stands = record {
    moved = true;
    weight = cost.weight + n;
    held' = held';
    known' = known';
    world' = world';
    cf' = cf2;
    ck' = ck2;
    path = Doing 0 n (cost.weight + n) levels cost out world cf ck cf ck world' cf1 ck1 cf2 ck2 (There 0 cf ck) eq path (omega arith) lv;
    level = level;
    pays = le;
    falls = λ e. absurd (let z : true ≡ false = e in cc);
    grows = grows;
    requests = requests;
    stands = stands;
  }

  pub does_then : (n : ℕ) (before : Start) (spent total levels held' : ℕ) (cost : Cost) (out : List Bytes) (known known' : List Known) (world world' : World) (cf : Focus) (ck : List Frame) (cf1 : Focus) (ck1 : List Frame) (cf2 : Focus) (ck2 : List Frame) (store : Store) (f : machine.Focus) (k : Stack)
      → focused program context nodes world cf ck ≡ Go cost out world' (at program context nodes cf1 ck1) → Comes program context nodes world' n cf1 ck1 cf2 ck2 → spent + (cost.weight + n) + held' ≤ total + owed k → cost.levels ≤ levels
      → (more : List Known) × (known' ≡ known ++ more) → world'.requests ≡ world.requests → WorldBelongs program.groups known' context.globals store world' → StateBelongs program context nodes world' known' held' f k cf2 ck2
      → Follows program context nodes before spent total levels out known world cf ck store f k
  does_then n before spent total levels held' cost out known known' world world' cf ck cf1 ck1 cf2 ck2 store f k eq path le lv grows requests worlds state =
      does_then_in n before spent total levels held' cost out known known' world world' cf ck cf1 ck1 cf2 ck2 store f k eq path le lv grows requests (no_deeper program context nodes world' known' held' f k cf2 ck ck2 state) (Here store f k cf2 ck2 worlds state)

  -- it ends after such steps
  pub stops_then : (n : ℕ) (before : Start) (spent total levels : ℕ) (cost last : Cost) (world : World) (cf : Focus) (ck : List Frame) (cf1 : Focus) (ck1 : List Frame) (cf2 : Focus) (ck2 : List Frame) (end : End Waiting)
      → focused program context nodes world cf ck ≡ Go cost [] world (at program context nodes cf1 ck1) → Comes program context nodes world n cf1 ck1 cf2 ck2 → focused program context nodes world cf2 ck2 ≡ Ends last [] world end
      → spent + (cost.weight + n) + last.weight ≤ total → cost.levels ≤ levels → last.levels ≤ levels → depth_of ck2 ≤ depth_of ck → Stops program context nodes before spent total levels world cf ck end
  stops_then n before spent total levels cost last world cf ck cf1 ck1 cf2 ck2 end eq path ends le lv last_lv level = record {
    moved = true;
    weight = cost.weight + n;
    through = levels;
    cost = last;
    cf' = cf2;
    ck' = ck2;
    path = Doing 0 n (cost.weight + n) levels cost [] world cf ck cf ck world cf1 ck1 cf2 ck2 (There 0 cf ck) eq path (omega arith) lv;
    ends = ends;
    level = inl (omega arith, last_lv, level);
    pays = le;
  }

  -- the same in a body that was entered
  pub stops_in : (n : ℕ) (before : Start) (spent total levels : ℕ) (cost last : Cost) (world : World) (cf : Focus) (ck : List Frame) (cf1 : Focus) (ck1 : List Frame) (cf2 : Focus) (ck2 : List Frame) (end : End Waiting)
      → focused program context nodes world cf ck ≡ Go cost [] world (at program context nodes cf1 ck1) → Comes program context nodes world n cf1 ck1 cf2 ck2 → focused program context nodes world cf2 ck2 ≡ Ends last [] world end
      → spent + (cost.weight + n) + last.weight ≤ total → cost.levels ≡ 0 → last.levels ≡ 0 → 16 + nodes + depth_of ck2 ≤ before.live + 16 * levels
      → (r : Stops program context nodes before spent total levels world cf ck end) × InBody program context nodes before levels r.through r.cost.levels r.ck'
  stops_in n before spent total levels cost last world cf ck cf1 ck1 cf2 ck2 end eq path ends le lv last_lv level = (
    record {
      moved = true;
      weight = cost.weight + n;
      through = 0;
      cost = last;
      cf' = cf2;
      ck' = ck2;
      path = Doing 0 n (cost.weight + n) 0 cost [] world cf ck cf ck world cf1 ck1 cf2 ck2 (There 0 cf ck) eq path (omega arith) (omega (arith, lv));
      ends = ends;
      level = inr (refl, last_lv, level);
      pays = le;
    },
    (refl, last_lv, level),
  )
