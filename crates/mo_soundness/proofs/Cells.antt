-- The store, and what is done with its cells.
use Rattle.std.proofs.Common.{◌≡◌, ℕ, zero, suc, List, [], ◌∷◌, ◌++◌, length, Option, Some, None, refl, sym, subst, slice_get, slice_set}
use Rattle.mo_types.specs.declared.node.TypeId.{TypeId}
use Rattle.mo_types.specs.Sub.{AtSome}
use Rattle.mo_values.specs.Costs.{Cost, weighing}
use Rattle.mo_values.specs.Shapes.{Cell}
use Rattle.mo_values.specs.Views.{Answer, Gives}
use Rattle.mo_values.specs.Views as answer
use Rattle.typed_tree.specs.Language.{Value, Made, NoValue, Val}
use Rattle.typed_tree.specs.MemberTypes.{IsUnit}
use Rattle.typed_tree.specs.Opening.{Code, value_of}
use Rattle.typed_tree.specs.Wants.{Want, Of, CellOf, Equal}
use Rattle.mo_meaning.specs.Actions.{answered}
use Rattle.mo_meaning.specs.Acts.{Store, Goes}
use Rattle.mo_meaning.specs.Cells.{goes_to, cell_of, read_cell, new_cell, written, written_in}
use Rattle.mo_soundness.specs.Keeps.{IsLonger, Keeps}
use Rattle.mo_soundness.specs.Lawful.{IsLawful}
use Rattle.mo_soundness.specs.Running.{AnswerTypes, HasValue, StoreTyped}
use Rattle.mo_soundness.specs.Worlds.{World}
use Rattle.mo_soundness.proofs.Found.{unit_fits}
use Rattle.mo_soundness.proofs.Less.{has_sub}
use Rattle.mo_soundness.proofs.More.{longer_self, knows_self, has_grow, store_grow}
use Rattle.mo_soundness.proofs.Values.{AnswerFits}
use Rattle.mo_soundness.proofs.Wanted.{equal_self}

module _ (world : World) (lawful : IsLawful world.head) (answers : AnswerTypes) (kinds : List TypeId) where
  abbrev Has : Want TypeId → Value → Type 0
  Has = HasValue world answers kinds

  abbrev Holds : Store → Type 0
  Holds store = StoreTyped world answers kinds store kinds

  store_push : (more : List TypeId) (st : List Value) (us : List TypeId) (v : Value) (t : TypeId) → StoreTyped world answers more st us → HasValue world answers more (Of t) v → StoreTyped world answers more (st ++ v ∷ []) (us ++ t ∷ [])
  store_push more [] [] v t h i = (i, tt)
  store_push more [] (u ∷ us) v t h i = absurd h
  store_push more (w ∷ st) [] v t h i = absurd h
  store_push more (w ∷ st) (u ∷ us) v t h i = (h.0, store_push more st us v t h.1 i)

  at_end : (st : List Value) (us : List TypeId) (t : TypeId) (P : TypeId → Type 0) → StoreTyped world answers kinds st us → P t → AtSome (slice_get (us ++ t ∷ []) (length st)) P
  at_end [] [] t P h p = p
  at_end [] (u ∷ us) t P h p = absurd h
  at_end (w ∷ st) [] t P h p = absurd h
  at_end (w ∷ st) (u ∷ us) t P h p = at_end st us t P h.1 p

  -- what a cell holds, of which something is known by its type
  pub record Stored (st : List Value) (at : ℕ) (P : TypeId → Type 0) : Type 0 where
    pub kind : TypeId
    pub v : Value
    pub is : slice_get st at ≡ Some v
    pub has : Has (Of kind) v
    pub holds : P kind

  pub store_at : (st : List Value) (us : List TypeId) (at : ℕ) (P : TypeId → Type 0) → StoreTyped world answers kinds st us → AtSome (slice_get us at) P → Stored st at P
  store_at st [] at P h p = absurd p
  store_at [] (u ∷ us) at P h p = absurd h
  store_at (v ∷ st) (u ∷ us) zero P h p = record { kind = u; v = v; is = refl; has = h.0; holds = p }
  store_at (v ∷ st) (u ∷ us) (suc n) P h p = let r = store_at st us n P h.1 p in record { kind = r.kind; v = r.v; is = r.is; has = r.has; holds = r.holds }

  store_set : (st : List Value) (us : List TypeId) (at : ℕ) (v : Value) → StoreTyped world answers kinds st us → AtSome (slice_get us at) (λ u. Has (Of u) v) → StoreTyped world answers kinds (slice_set st at v) us
  store_set st [] at v h p = absurd p
  store_set [] (u ∷ us) at v h p = absurd h
  store_set (w ∷ st) (u ∷ us) zero v h p = (p, h.1)
  store_set (w ∷ st) (u ∷ us) (suc n) v h p = (h.0, store_set st us n v h.1 p)

  at_map : (o : Option TypeId) (P Q : TypeId → Type 0) → ((u : TypeId) → P u → Q u) → AtSome o P → AtSome o Q
  at_map None P Q f h = h
  at_map (Some u) P Q f h = f u h

  -- a reduction to a value that fits
  pub gives : (ls : List TypeId) (w : Want TypeId) (store : Store) (v : Value) (cost : Cost) → Holds store → Has w v → Keeps world answers kinds ls w (Goes cost store (Val v))
  gives ls w store v cost s h = (kinds, longer_self kinds, s, h)

  pub new_keeps : (ls : List TypeId) (store : Store) (t : TypeId) (v : Value) → Holds store → Has (Of t) v → Keeps world answers kinds ls (CellOf t) (new_cell store v)
  new_keeps ls store t v s h =
      let more = kinds ++ t ∷ [] in
      let g : IsLonger kinds more = (t ∷ [], refl) in (
        more,
        g,
        store_push more store kinds v t (store_grow world answers answers (knows_self answers) kinds more g store kinds s) (has_grow world answers answers (knows_self answers) kinds more g v (Of t) h),
        at_end store kinds t (λ u. Equal world.head t u) s (equal_self world.head lawful t),
      )

  pub read_keeps : (ls : List TypeId) (store : Store) (t : TypeId) (c : Value) → Holds store → Has (CellOf t) c → Keeps world answers kinds ls (Of t) (read_cell store c)
  read_keeps ls store t (Made (Cell at) NoValue) s h =
      let r = store_at store kinds at (λ u. Equal world.head t u) s h in
      subst (λ o. Keeps world answers kinds ls (Of t) (goes_to store o)) (sym r.is) (gives ls (Of t) store r.v (weighing 1) s (has_sub world lawful answers kinds r.v (Of r.kind) (Of t) r.has r.holds.1))
  read_keeps ls store t c s h = absurd h

  pub write_keeps : (ls : List TypeId) (store : Store) (t u : TypeId) (c v : Value) → Holds store → IsUnit world.head u → Has (CellOf t) c → Has (Of t) v → Keeps world answers kinds ls (Of u) (written store (cell_of c) v)
  write_keeps ls store t u (Made (Cell at) NoValue) v s iu h i = (
    kinds,
    longer_self kinds,
    store_set store kinds at v s (at_map (slice_get kinds at) (λ k. Equal world.head t k) (λ k. Has (Of k) v) (λ k e. has_sub world lawful answers kinds v (Of t) (Of k) i e.0) h),
    unit_fits world answers kinds u iu,
  )
  write_keeps ls store t u c v s iu h i = absurd h

  pub answer_keeps : (ls : List TypeId) (w : Want TypeId) (store : Store) (cost : Cost) (a : Answer Code) → Holds store → AnswerFits world answers kinds w a → Keeps world answers kinds ls w (answered store cost a)
  answer_keeps ls w store cost (Gives v) s h = gives ls w store (value_of v) cost s h
  answer_keeps ls w store cost (answer.Traps text) s h = tt
  answer_keeps ls w store cost answer.Stuck s h = h

  pub element_keeps : (ls : List TypeId) (store : Store) (t u : TypeId) (a : Answer Code) (v : Value) → Holds store → IsUnit world.head u → AnswerFits world answers kinds (CellOf t) a → Has (Of t) v → Keeps world answers kinds ls (Of u) (written_in store a v)
  element_keeps ls store t u (Gives c) v s iu h i = write_keeps ls store t u (value_of c) v s iu h i
  element_keeps ls store t u (answer.Traps text) v s iu h i = tt
  element_keeps ls store t u answer.Stuck v s iu h i = h
