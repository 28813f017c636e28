-- Lists in which nothing is used before it is defined are in order, as their declarations are placed.
use Rattle.std.proofs.Common.{◌≡◌, ◌⊎◌, inl, inr, ℕ, zero, suc, ◌+◌, ◌<◌, ◌≤◌, Bool, true, false, ◌||◌, List, [], ◌∷◌, ◌++◌, Some, refl, sym, ap, ap₂, ◌∙◌, subst, arith}
use Rattle.std.specs.List.{flat_map}
use Rattle.std.specs.Str.{bytes_eq}
use Rattle.std.specs.Prelude.{IsTrue, nat_lt}
use Rattle.std.proofs.lemmas.Bool.{ltb-true, ltb-false}
use Rattle.std.proofs.lemmas.Slice.Eq.{bytes_eq-Decides}
use Rattle.mo_name_table.specs.Places.{texts}
use Rattle.mo_names.specs.Order.{Step, Uses, names_of_steps}
use Rattle.mo_names.specs.Order as order
use Rattle.mo_scopes.specs.Findings.{Texts, Names}
use Rattle.mo_syntax.specs.declared.name.Name.{Name}
use Rattle.typed_tree.specs.Placing.{is_among}
use Rattle.typing_rules.specs.AbstractSyntax.{Bytes, Declaration, Declarations}
use Rattle.typing_rules.specs.AbstractSyntax as p
use Rattle.desugaring.specs.FreeNames.{declared, names_of_list, function_name, in_declaration, in_declarations}
use Rattle.kernel_places.specs.Reaching.{at, Reaches}
use Rattle.order_laws.specs.Ordered.{declareds, IsOrdered}
use Rattle.source_facts.specs.Laws.{IsListFine}
use Rattle.source_facts.proofs.Facts.{StepIs, both_same}

-- each declaration stands so
abbrev pub StepsAre : List Step → Declarations ℕ → Type 0
StepsAre [] p.End = Unit {0}
StepsAre (s ∷ steps) (p.Then public n d rest) = StepIs s d × StepsAre steps rest
StepsAre _ _ = ⊥

-- ---- the names of a list

pub steps_names : (steps : List Step) (ds : Declarations ℕ) → StepsAre steps ds → names_of_list ds ≡ names_of_steps steps
steps_names [] p.End h = refl
steps_names [] (p.Then public n d rest) h = absurd h
steps_names (s ∷ steps) p.End h = absurd h
steps_names (s ∷ steps) (p.Then public n d rest) h = ap₂ (λ x y. x ++ y) (sym h.0.names) (steps_names steps rest h.1)

pub steps_occur : (steps : List Step) (ds : Declarations ℕ) → StepsAre steps ds → in_declarations ds ≡ texts (flat_map (λ s. s.occurs) steps)
steps_occur [] p.End h = refl
steps_occur [] (p.Then public n d rest) h = absurd h
steps_occur (s ∷ steps) p.End h = absurd h
steps_occur (s ∷ steps) (p.Then public n d rest) h = both_same (in_declaration d) (in_declarations rest) s.occurs (flat_map (λ s. s.occurs) steps) (sym h.0.occurs) (steps_occur steps rest h.1)

-- ---- one declaration of a list

no_name : {A : Type 0} → false ≡ true → A
no_name h = cc

true_is : (b : Bool) → b ≡ true → IsTrue b
true_is b h = h

or_left : (a b : Bool) → a ≡ true → (a || b) ≡ true
or_left true b h = refl
or_left false b h = no_name h

or_right : (a b : Bool) → b ≡ true → (a || b) ≡ true
or_right true b h = refl
or_right false b h = h

contains_left : (xs ys : Texts) (y : Bytes) → is_among y xs ≡ true → is_among y (xs ++ ys) ≡ true
contains_left [] ys y h = no_name h
contains_left (x ∷ xs) ys y h = by (bytes_eq y x) h (λ k. contains_left xs ys y k) where
  by : (b : Bool) → (b || is_among y xs) ≡ true → (is_among y xs ≡ true → is_among y (xs ++ ys) ≡ true) → (b || is_among y (xs ++ ys)) ≡ true
  by true h k = refl
  by false h k = k h

contains_right : (xs ys : Texts) (y : Bytes) → is_among y ys ≡ true → is_among y (xs ++ ys) ≡ true
contains_right [] ys y h = h
contains_right (x ∷ xs) ys y h = or_right (bytes_eq y x) (is_among y (xs ++ ys)) (contains_right xs ys y h)

-- what the declarations from here on define
abbrev later : List Step → Texts
later steps = flat_map (λ s. s.defines) steps

defined_later : (steps : List Step) (ds : Declarations ℕ) → StepsAre steps ds → (m : ℕ) (y : Bytes) → is_among y (at (declareds ds) m).defines ≡ true → is_among y (later steps) ≡ true
defined_later [] p.End h m y i = no_name i
defined_later [] (p.Then public n d rest) h m y i = absurd h
defined_later (s ∷ steps) p.End h m y i = absurd h
defined_later (s ∷ steps) (p.Then public n d rest) h zero y i = contains_left s.defines (later steps) y (subst (λ z. is_among y z ≡ true) (sym h.0.defines) i)
defined_later (s ∷ steps) (p.Then public n d rest) h (suc m) y i = contains_right s.defines (later steps) y (defined_later steps rest h.1 m y i)

record Split (steps : List Step) (ds : Declarations ℕ) (n : ℕ) : Type 0 where
  before : List Step
  after : List Step
  step : Step
  is : Declaration ℕ
  list : steps ≡ before ++ step ∷ after
  stands : StepIs step is
  declared_is : at (declareds ds) n ≡ declared is
  behind : (m : ℕ) (y : Bytes) → n ≤ m → is_among y (at (declareds ds) m).defines ≡ true → is_among y (later (step ∷ after)) ≡ true

split_at : (steps : List Step) (ds : Declarations ℕ) → StepsAre steps ds → (n : ℕ) (y : Bytes) → is_among y (at (declareds ds) n).occurs ≡ true → Split steps ds n
split_at [] p.End h n y i = no_name i
split_at [] (p.Then public k d rest) h n y i = absurd h
split_at (s ∷ steps) p.End h n y i = absurd h
split_at (s ∷ steps) (p.Then public k d rest) h zero y i =
    record { before = []; after = steps; step = s; is = d; list = refl; stands = h.0; declared_is = refl; behind = λ m z l j. defined_later (s ∷ steps) (p.Then public k d rest) h m z j }
split_at (s ∷ steps) (p.Then public k d rest) h (suc n) y i =
    let w = split_at steps rest h.1 n y i in
    record { before = s ∷ w.before; after = w.after; step = w.step; is = w.is; list = ap (λ z. s ∷ z) w.list; stands = w.stands; declared_is = w.declared_is; behind = λ m z l j. behind w m z l j } where
      behind : (w : Split steps rest n) (m : ℕ) (z : Bytes) → suc n ≤ m → is_among z (at (declareds (p.Then public k d rest)) m).defines ≡ true → is_among z (later (w.step ∷ w.after)) ≡ true
      behind w zero z l j = absurd (omega arith)
      behind w (suc m) z l j = w.behind m z (omega arith) j

-- ---- what is reached is used

itself : (x : Bytes) → is_among x (x ∷ []) ≡ true
itself x = or_left (bytes_eq x x) false ((bytes_eq-Decides x x).1 refl)

-- a name that is reached from several is used where one of them occurs
record UsedBy (steps : List Step) (names : List Bytes) (y : Bytes) : Type 0 where
  name : Bytes
  there : is_among name names ≡ true
  used : Uses steps (name ∷ []) y

reached_used : (steps : List Step) (ds : Declarations ℕ) → StepsAre steps ds → (names : List Bytes) (y : Bytes) → Reaches (declareds ds) names y → UsedBy steps names y
reached_used steps ds h names y (Reaches.Occurring x i) = record { name = x; there = i; used = Uses.occurring x (true_is (is_among x (x ∷ [])) (itself x)) }
reached_used steps ds h names y (Reaches.Through k f x r e o) =
    let u = reached_used steps ds h names f r in
    let w = split_at steps ds h k x o in
    let g : function_name w.is ≡ Some f = sym (ap (λ z. z.function) w.declared_is) ∙ e in
    let fs : is_among f w.step.functions ≡ true = subst (λ z. is_among f z ≡ true) (sym (w.stands.function f g)) (itself f) in
    let os : is_among x (texts w.step.occurs) ≡ true = subst (λ z. is_among x z ≡ true) (ap (λ z. z.occurs) w.declared_is ∙ sym w.stands.occurs) o in
    record { name = u.name; there = u.there; used = Uses.through w.before w.after w.step f x w.list u.used (true_is (is_among f w.step.functions) fs) (true_is (is_among x (texts w.step.occurs)) os) }

-- a name of a text among these
named_so : (xs : Names) (y : Bytes) → is_among y (texts xs) ≡ true → (x : Name) × order.Among x xs × (x.bytes ≡ y)
named_so [] y h = no_name h
named_so (x ∷ xs) y h = by (bytes_eq y x.bytes) refl h (λ k. named_so xs y k) where
  by : (b : Bool) → bytes_eq y x.bytes ≡ b → (b || is_among y (texts xs)) ≡ true → (is_among y (texts xs) ≡ true → (z : Name) × order.Among z xs × (z.bytes ≡ y)) → (z : Name) × order.Among z (x ∷ xs) × (z.bytes ≡ y)
  by true e h k = (x, ([], xs, refl), sym ((bytes_eq-Decides y x.bytes).0 e))
  by false e h k = let w = k h in (w.0, (x ∷ w.1.0, w.1.1, ap (λ z. x ∷ z) w.1.2), w.2)

not_in_none : (xs : List Bytes) (y : Bytes) → xs ≡ [] → is_among y xs ≡ true → ⊥
not_in_none xs y e h = no_name (subst (λ z. is_among y z ≡ true) e h)

pub ordered : (steps : List Step) (ds : Declarations ℕ) → StepsAre steps ds → IsListFine steps → IsOrdered (declareds ds)
ordered steps ds h f n m e w = by (nat_lt m n) refl where
  used : UsedBy steps (at (declareds ds) n).occurs w.name
  used = reached_used steps ds h (at (declareds ds) n).occurs w.name w.reached

  split : Split steps ds n
  split = split_at steps ds h n used.name used.there

  early : n ≤ m → ⊥
  early l = evaluated (split.stands.evaluated (sym (ap (λ z. z.function) split.declared_is) ∙ e)) where
    there : is_among used.name (texts split.step.occurs) ≡ true
    there = subst (λ z. is_among used.name z ≡ true) (ap (λ z. z.occurs) split.declared_is ∙ sym split.stands.occurs) used.there

    evaluated : (split.step.functions ≡ []) ⊎ (in_declaration split.is ≡ []) → ⊥
    evaluated (inl i) =
        let x = named_so split.step.occurs used.name there in
        f x.0 (record {
          before = split.before;
          after = split.after;
          step = split.step;
          late = w.name;
          list = split.list;
          evaluated = i;
          occurs = x.1;
          defined = true_is (is_among w.name (later (split.step ∷ split.after))) (split.behind m w.name l w.defined);
          used = subst (λ z. Uses steps (z ∷ []) w.name) (sym x.2) used.used;
        })
    evaluated (inr i) = not_in_none (texts split.step.occurs) used.name (split.stands.occurs ∙ i) there

  by : (b : Bool) → nat_lt m n ≡ b → m < n
  by true i = ltb-true m n i
  by false i = absurd (early (ltb-false m n i))
