-- The functions behind an actor's declarations: with values in the place of outer names, and with more answers and cells.
use Rattle.std.proofs.Common.{◌≡◌, inl, inr, ℕ, zero, suc, ◌+◌, List, [], ◌∷◌, ◌++◌, length, length-append, map, Some, None, refl, sym, ap, ap₂, ◌∙◌, arith}
use Rattle.mo_types.specs.declared.node.TypeId.{TypeId}
use Rattle.mo_types.specs.Graph.{Slot}
use Rattle.mo_types.specs.Values.{copies}
use Rattle.typed_tree.specs.Language.{Value, Exp, Functions, Function, NoFunction, AFunction}
use Rattle.typed_tree.specs.Patterns.{Pat, Pats, NoPat, APat, names, names_all}
use Rattle.typed_tree.specs.Substitution.{Slots, hide, put, put_functions, functions, count}
use Rattle.typed_tree.specs.Wants.{Want, Anything, Of, in_function}
use Rattle.mo_soundness.specs.Keeps.{IsLonger, KnowsMore}
use Rattle.mo_soundness.specs.Lawful.{IsLawful}
use Rattle.mo_soundness.specs.Running.{Around, AnswerTypes, still, in_body}
use Rattle.mo_soundness.proofs.More.{longer_self, still_more, typed_grow}
use Rattle.mo_soundness.proofs.Put.{Covers, covers_hide, covers_function, covers_still, pattern_names, patterns_names, put_typed, name_grow}
use Rattle.program_soundness.specs.Roles.{Role, AMethod, AHook, calling, in_group, ContextBinds, PlaysRole, RolesTyped, IsFunctionAs}
use Rattle.program_soundness.specs.Worlds.{running}

context_names : (types : List Slot) (p : Pat) (ns : List (Want TypeId)) → ContextBinds types p ns → length ns ≡ names p
context_names types p ns (inl h) = ap length h.1 ∙ ap names (sym h.0)
context_names types p ns (inr h) = pattern_names (running types) p h.0 ns h.2

module _ (types : List Slot) (lawful : IsLawful (running types).head) (answers : AnswerTypes) (kinds : List TypeId) where
  pub roles_count : (c : Around) (roles : List Role) (fns : Functions) → RolesTyped types answers kinds c roles fns → length roles ≡ count fns
  roles_count c [] NoFunction h = refl
  roles_count c [] (AFunction how n ps body fns) h = absurd h
  roles_count c (role ∷ roles) NoFunction h = absurd h
  roles_count c (role ∷ roles) (AFunction how n ps body fns) h = ap suc (roles_count c roles fns h.1)

  -- the functions of a group, in the place of names that stand for nothing that is used
  pub covers_unused : (group fns : Functions) (n k : ℕ) → k ≡ count fns → Covers (running types) answers lawful kinds (functions group fns n) (copies k Anything) []
  covers_unused group NoFunction n zero e = refl
  covers_unused group NoFunction n (suc k) e = absurd (omega (arith, e))
  covers_unused group (AFunction how m ps body fns) n zero e = absurd (omega (arith, e))
  covers_unused group (AFunction how m ps body fns) n (suc k) e = (refl, tt, covers_unused group fns (suc n) k (omega (arith, e)))

  -- ---- values in the place of outer names

  abbrev C : Slots → List (Want TypeId) → List (Want TypeId) → Type 0
  C = Covers (running types) answers lawful kinds

  knows_calling : KnowsMore answers (calling answers)
  knows_calling = (λ n t e. e, λ e. refl)

  covers_calling : (s : Slots) (ws us : List (Want TypeId)) → C s ws us → Covers (running types) (calling answers) lawful kinds s ws us
  covers_calling [] [] us h = h
  covers_calling [] (w ∷ ws) us h = absurd h
  covers_calling (o ∷ s) [] us h = absurd h
  covers_calling (None ∷ s) (w ∷ ws) [] h = absurd h
  covers_calling (None ∷ s) (w ∷ ws) (u ∷ us) h = (h.0, covers_calling s ws us h.1)
  covers_calling (Some v ∷ s) (w ∷ ws) us h = (h.0, name_grow (running types) answers (calling answers) knows_calling kinds kinds (longer_self kinds) w v h.1, covers_calling s ws [] h.2)

  role_put : (role : Role) (ps : Pats) (body : Exp) (s : Slots) (ws us : List (Want TypeId)) (ls : List TypeId) → C s ws us → PlaysRole types answers kinds (record { names = ws; labels = ls }) role ps body
      → PlaysRole types answers kinds (record { names = us; labels = ls }) role ps (put (hide (names_all ps) s) body)
  role_put (AMethod ts rs) (APat p qs) body s ws us ls c h = (
    h.0,
    h.1,
    h.2,
    h.3,
    h.4,
    h.5,
    put_typed (running types) (calling answers) lawful kinds body (hide (names_all (APat p qs)) s) ((h.0 ++ h.1) ++ map in_function ws) ((h.0 ++ h.1) ++ map in_function us) (h.2 ∷ []) (Of h.2)
        (covers_hide (running types) (calling answers) lawful kinds (h.0 ++ h.1) (names_all (APat p qs)) s (map in_function ws) (map in_function us)
        (length-append h.0 h.1 ∙ ap₂ (λ m n. m + n) (context_names types p h.0 h.3) (patterns_names (running types) qs ts h.1 h.4))
        (covers_function (running types) (calling answers) lawful kinds s ws us (covers_calling s ws us c))) h.6,
  )
  role_put (AMethod ts rs) NoPat body s ws us ls c h = absurd h
  role_put AHook NoPat body s ws us ls c h = (
    h.0,
    h.1,
    put_typed (running types) (still answers) lawful kinds body (hide (names_all NoPat) s) (map in_function ws) (map in_function us) (h.0 ∷ []) (Of h.0)
        (covers_function (running types) (still answers) lawful kinds s ws us (covers_still (running types) s ws us answers lawful kinds c)) h.2,
  )
  role_put AHook (APat p qs) body s ws us ls c h = absurd h

  pub roles_put : (roles : List Role) (fns : Functions) (s : Slots) (ws us : List (Want TypeId)) (ls : List TypeId) → C s ws us → RolesTyped types answers kinds (record { names = ws; labels = ls }) roles fns
      → RolesTyped types answers kinds (record { names = us; labels = ls }) roles (put_functions s fns)
  roles_put [] NoFunction s ws us ls c h = tt
  roles_put [] (AFunction how n ps body fns) s ws us ls c h = absurd h
  roles_put (role ∷ roles) NoFunction s ws us ls c h = absurd h
  roles_put (role ∷ roles) (AFunction how n ps body fns) s ws us ls c h = (role_put role ps body s ws us ls c h.0, roles_put roles fns s ws us ls c h.1)

  -- labels are out of reach in a function
  role_labels : (role : Role) (ps : Pats) (body : Exp) (c : Around) (ls : List TypeId) → PlaysRole types answers kinds c role ps body → PlaysRole types answers kinds (record { names = c.names; labels = ls }) role ps body
  role_labels (AMethod ts rs) (APat p qs) body c ls h = h
  role_labels (AMethod ts rs) NoPat body c ls h = absurd h
  role_labels AHook NoPat body c ls h = h
  role_labels AHook (APat p qs) body c ls h = absurd h

  pub roles_labels : (roles : List Role) (fns : Functions) (c : Around) (ls : List TypeId) → RolesTyped types answers kinds c roles fns → RolesTyped types answers kinds (record { names = c.names; labels = ls }) roles fns
  roles_labels [] NoFunction c ls h = tt
  roles_labels [] (AFunction how n ps body fns) c ls h = absurd h
  roles_labels (role ∷ roles) NoFunction c ls h = absurd h
  roles_labels (role ∷ roles) (AFunction how n ps body fns) c ls h = (role_labels role ps body c ls h.0, roles_labels roles fns c ls h.1)

-- ---- more answers and cells

module _ (types : List Slot) (answers more : AnswerTypes) (knows : KnowsMore answers more) (kinds longer : List TypeId) (l : IsLonger kinds longer) where
  role_grow : (role : Role) (ps : Pats) (body : Exp) (c : Around) → PlaysRole types answers kinds c role ps body → PlaysRole types more longer c role ps body
  role_grow (AMethod ts rs) (APat p qs) body c h = (h.0, h.1, h.2, h.3, h.4, h.5, typed_grow (running types) (calling answers) (calling more) (λ n t e. knows.0 n t e, λ e. refl) kinds longer l (in_body (h.0 ++ h.1) h.2 c) body (Of h.2) h.6)
  role_grow (AMethod ts rs) NoPat body c h = absurd h
  role_grow AHook NoPat body c h = (h.0, h.1, typed_grow (running types) (still answers) (still more) (still_more answers more knows) kinds longer l (in_body [] h.0 c) body (Of h.0) h.2)
  role_grow AHook (APat p qs) body c h = absurd h

  pub roles_grow : (roles : List Role) (fns : Functions) (c : Around) → RolesTyped types answers kinds c roles fns → RolesTyped types more longer c roles fns
  roles_grow [] NoFunction c h = tt
  roles_grow [] (AFunction how n ps body fns) c h = absurd h
  roles_grow (role ∷ roles) NoFunction c h = absurd h
  roles_grow (role ∷ roles) (AFunction how n ps body fns) c h = (role_grow role ps body c h.0, roles_grow roles fns c h.1)

  pub function_grow : (role : Role) (v : Value) → IsFunctionAs types answers kinds role v → IsFunctionAs types more longer role v
  function_grow role (Function group which) h = (h.0, roles_grow h.0 group (in_group h.0) h.1, h.2)
  function_grow role v h = absurd h
