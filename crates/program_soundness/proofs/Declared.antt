-- The declarations of an actor with values in the place of outer names, and with more answers and cells.
use Rattle.std.proofs.Common.{◌≡◌, inl, inr, ℕ, zero, suc, ◌+◌, ◌≤◌, List, [], ◌∷◌, ◌++◌, length, length-append, map, Option, Some, None, refl, ap, ap₂, ◌∙◌, subst, arith}
use Rattle.mo_types.specs.declared.node.TypeId.{TypeId}
use Rattle.mo_types.specs.Graph.{Slot}
use Rattle.mo_values.specs.declared.operation.Operation.TheVariants as op
use Rattle.typed_tree.specs.declared.action.Action.TheVariants as action
use Rattle.typed_tree.specs.declared.expression.Function.{Function}
use Rattle.typed_tree.specs.declared.program.Program.{Program}
use Rattle.typed_tree.specs.declared.program.StableVariable.{StableVariable}
use Rattle.typed_tree.specs.Language.{Exp, Exps, Functions, Val, Name, Do, Group, NoExp, AnExp, NoFunction, AFunction}
use Rattle.typed_tree.specs.Patterns.{names}
use Rattle.typed_tree.specs.ProgramView.{names_from, optional_function, optional_name}
use Rattle.typed_tree.specs.Substitution.{Slots, pick, hide, put, put_all, put_functions, count}
use Rattle.typed_tree.specs.View.{exps}
use Rattle.typed_tree.specs.Wants.{Want, CellOf}
use Rattle.mo_soundness.specs.Keeps.{IsLonger, KnowsMore}
use Rattle.mo_soundness.specs.Lawful.{IsLawful}
use Rattle.mo_soundness.specs.Running.{Around, AnswerTypes, with_names, FunctionsTyped}
use Rattle.mo_soundness.proofs.More.{typed_grow, functions_grow}
use Rattle.mo_soundness.proofs.Put.{Covers, covers_hide, binds_names, put_typed, put_functions_typed}
use Rattle.program_soundness.specs.Declared.{hook_role, roles_of, ending, IsAtom, CellsNamed, EndsIn, Declared, Last, Before}
use Rattle.program_soundness.specs.Roles.{Role, AMethod, unused}
use Rattle.program_soundness.proofs.Roles.{roles_count, roles_put, roles_grow}
use Rattle.program_soundness.specs.Worlds.{running, kept_type}
use Rattle.closed_trees.specs.Opening.{Opens}

-- ---- names that are bound inside stay

pick_hidden : (k : ℕ) (s : Slots) (n x : ℕ) → suc n ≤ k → pick (hide k s) n x ≡ Name x
pick_hidden zero s n x h = absurd (omega (arith, h))
pick_hidden (suc k) s zero x h = refl
pick_hidden (suc k) s (suc n) x h = pick_hidden k s n x (omega (arith, h))

names_put : (k : ℕ) (s : Slots) (n m : ℕ) → n + m ≤ k → put_all (hide k s) (exps (names_from n m)) ≡ exps (names_from n m)
names_put k s n zero h = refl
names_put k s n (suc m) h = ap₂ AnExp (pick_hidden k s n n (omega (arith, h))) (names_put k s (suc n) m (omega (arith, h)))

optional_put : (k : ℕ) (s : Slots) (n : ℕ) (o : Option Function) → n + length (optional_function o) ≤ k → put (hide k s) (optional_name n o) ≡ optional_name n o
optional_put k s n None h = refl
optional_put k s n (Some f) h = ap (λ (e : Exp). Do (action.Operate op.MakeOption) (AnExp e NoExp)) (pick_hidden k s n n (one h))
  where
    one : n + 1 ≤ k → suc n ≤ k
    one i = omega (arith, i)

abbrev pub functions_count : Program → ℕ
functions_count p = length p.methods + (length (optional_function p.before_upgrade) + length (optional_function p.after_upgrade))

pub ending_put : (p : Program) (cells : Exps) (k : ℕ) (s : Slots) → functions_count p ≤ k → put (hide k s) (ending p cells) ≡ ending p (put_all (hide k s) cells)
ending_put p cells k s h =
    let a = names_put k s 0 (length p.methods) (omega (arith, h)) in
    let b = optional_put k s (length p.methods) p.before_upgrade (omega (arith, h)) in
    let c = optional_put k s (length p.methods + length (optional_function p.before_upgrade)) p.after_upgrade (omega (arith, h)) in
    λ i. Do (action.Operate op.MakeTuple) (AnExp (Do (action.Operate op.MakeTuple) (a i)) (AnExp (b i) (AnExp (c i) (AnExp (Do (action.Operate (op.MakeObject (map (λ v. v.name) p.stable))) (put_all (hide k s) cells)) NoExp))))

length_mapped : {A B : Type 0} (f : A → B) (xs : List A) → length (map f xs) ≡ length xs
length_mapped f [] = refl
length_mapped f (x ∷ xs) = ap suc (length_mapped f xs)

hook_length : (o : Option Function) → length (hook_role o) ≡ length (optional_function o)
hook_length None = refl
hook_length (Some f) = refl

pub roles_length : (p : Program) → length (roles_of p) ≡ functions_count p
roles_length p =
    length-append (map (λ m. AMethod m.parameters m.results) p.methods) (hook_role p.before_upgrade ++ hook_role p.after_upgrade)
    ∙ ap₂ (λ m n. m + n) (length_mapped (λ m. AMethod m.parameters m.results) p.methods)
    (length-append (hook_role p.before_upgrade) (hook_role p.after_upgrade) ∙ ap₂ (λ m n. m + n) (hook_length p.before_upgrade) (hook_length p.after_upgrade))

unused_length : (roles : List Role) → length (unused roles) ≡ length roles
unused_length [] = refl
unused_length (r ∷ roles) = ap suc (unused_length roles)

pick_atom : (s : Slots) (n x : ℕ) → IsAtom (pick s n x)
pick_atom [] n x = tt
pick_atom (None ∷ s) zero x = tt
pick_atom (None ∷ s) (suc n) x = pick_atom s n x
pick_atom (Some v ∷ s) zero x = tt
pick_atom (Some v ∷ s) (suc n) x = pick_atom s n x

atom_put : (s : Slots) (e : Exp) → IsAtom e → IsAtom (put s e)
atom_put s (Val v) h = tt
atom_put s (Name x) h = pick_atom s x x
atom_put s e h = absurd h

module _ (types : List Slot) (lawful : IsLawful (running types).head) (answers : AnswerTypes) (kinds : List TypeId) where
  abbrev C : Slots → List (Want TypeId) → List (Want TypeId) → Type 0
  C = Covers (running types) answers lawful kinds

  pub cells_put : (cells : Exps) (vs : List StableVariable) (s : Slots) (ws us : List (Want TypeId)) (ls : List TypeId) → C s ws us → CellsNamed types answers kinds (record { names = ws; labels = ls }) cells vs
      → CellsNamed types answers kinds (record { names = us; labels = ls }) (put_all s cells) vs
  cells_put NoExp [] s ws us ls c h = tt
  cells_put NoExp (v ∷ vs) s ws us ls c h = absurd h
  cells_put (AnExp e es) [] s ws us ls c h = absurd h
  cells_put (AnExp e es) (v ∷ vs) s ws us ls c h = ((atom_put s e h.0.0, put_typed (running types) answers lawful kinds e s ws us ls (CellOf (kept_type types v.of_type)) c h.0.1), cells_put es vs s ws us ls c h.1)

  ends_put : (p : Program) (c : Around) (e : Exp) (s : Slots) (us : List (Want TypeId)) → C s c.names us → EndsIn types answers kinds p c e → EndsIn types answers kinds p (record { names = us; labels = c.labels }) (put s e)
  ends_put p c e s us k h =
      let roles = roles_of p in
      let fns = h.0 in
      let n = roles_count types lawful answers kinds (with_names (unused roles) c) roles fns h.3 in
      let g = covers_hide (running types) answers lawful kinds (unused roles) (count fns) s c.names us (unused_length roles ∙ n) k in (
        put_functions (hide (count fns) s) fns,
        put_all (hide (count fns) s) h.1,
        ap (put s) h.2 ∙ ap (Group (put_functions (hide (count fns) s) fns)) (ending_put p h.1 (count fns) s (subst (λ m. functions_count p ≤ m) n (omega (arith, roles_length p)))),
        roles_put types lawful answers kinds roles fns (hide (count fns) s) (unused roles ++ c.names) (unused roles ++ us) c.labels g h.3,
        cells_put h.1 p.stable (hide (count fns) s) (unused roles ++ c.names) (unused roles ++ us) c.labels g h.4,
      )

  functions_named : (c : Around) (fns : Functions) (ws : List (Want TypeId)) → FunctionsTyped (running types) answers kinds c fns ws → length ws ≡ count fns
  functions_named c NoFunction [] h = refl
  functions_named c NoFunction (w ∷ ws) h = absurd h
  functions_named c (AFunction how n ps body fns) [] h = absurd h
  functions_named c (AFunction how n ps body fns) (w ∷ ws) h = ap suc (functions_named c fns ws h.1)

  opens_put : (c : Around) (ns : List (Want TypeId)) (e b : Exp) (s : Slots) (us : List (Want TypeId)) → C s c.names us → Opens (running types) answers kinds c ns e b
      → (k : ℕ) × (length ns ≡ k) × Opens (running types) answers kinds (record { names = us; labels = c.labels }) ns (put s e) (put (hide k s) b)
  opens_put c ns e b s us k (inl o) = (
    names o.1,
    binds_names (running types) o.1 o.2 ns o.5,
    inl (put s o.0, o.1, o.2, ap (put s) o.3, put_typed (running types) answers lawful kinds o.0 s c.names us c.labels o.2 k o.4, o.5),
  )
  opens_put c ns e b s us k (inr o) =
      let n = functions_named (with_names ns c) o.0 ns o.2 in (
        count o.0,
        n,
        inr (
          put_functions (hide (count o.0) s) o.0,
          ap (put s) o.1,
          put_functions_typed (running types) answers lawful kinds o.0 (hide (count o.0) s) (ns ++ c.names) (ns ++ us) c.labels ns (covers_hide (running types) answers lawful kinds ns (count o.0) s c.names us n k) o.2,
        ),
      )

  pub declared_put : (p : Program) (c : Around) (e : Exp) (s : Slots) (us : List (Want TypeId)) → C s c.names us → Declared types answers kinds p c e → Declared types answers kinds p (record { names = us; labels = c.labels }) (put s e)
  declared_put p c e s us k (Last h) = Last (ends_put p c e s us k h)
  declared_put p c e s us k (Before {ns = ns} {b = b} o h) =
      let q = opens_put c ns e b s us k o in
      Before q.2 (declared_put p (with_names ns c) b (hide q.0 s) (ns ++ us) (covers_hide (running types) answers lawful kinds ns q.0 s c.names us q.1 k) h)

-- ---- more answers and cells

module _ (types : List Slot) (answers more : AnswerTypes) (knows : KnowsMore answers more) (kinds longer : List TypeId) (l : IsLonger kinds longer) where
  cells_grow : (c : Around) (cells : Exps) (vs : List StableVariable) → CellsNamed types answers kinds c cells vs → CellsNamed types more longer c cells vs
  cells_grow c NoExp [] h = tt
  cells_grow c NoExp (v ∷ vs) h = absurd h
  cells_grow c (AnExp e es) [] h = absurd h
  cells_grow c (AnExp e es) (v ∷ vs) h = ((h.0.0, typed_grow (running types) answers more knows kinds longer l c e (CellOf (kept_type types v.of_type)) h.0.1), cells_grow c es vs h.1)

  opens_grow : (c : Around) (ns : List (Want TypeId)) (e b : Exp) → Opens (running types) answers kinds c ns e b → Opens (running types) more longer c ns e b
  opens_grow c ns e b (inl o) = inl (o.0, o.1, o.2, o.3, typed_grow (running types) answers more knows kinds longer l c o.0 o.2 o.4, o.5)
  opens_grow c ns e b (inr o) = inr (o.0, o.1, functions_grow (running types) answers more knows kinds longer l (with_names ns c) o.0 ns o.2)

  pub declared_grow : (p : Program) (c : Around) (e : Exp) → Declared types answers kinds p c e → Declared types more longer p c e
  declared_grow p c e (Last h) = Last (h.0, h.1, h.2, roles_grow types answers more knows kinds longer l (roles_of p) h.0 (with_names (unused (roles_of p)) c) h.3, cells_grow (with_names (unused (roles_of p)) c) h.1 p.stable h.4)
  declared_grow p c e (Before {ns = ns} {b = b} o h) = Before (opens_grow c ns e b o) (declared_grow p (with_names ns c) b h)
