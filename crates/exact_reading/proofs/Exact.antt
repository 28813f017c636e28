-- What is read is spelled at the front, and what is spelled at the front is read, whatever follows it.
use Rattle.std.proofs.Common.{◌≡◌, ℕ, Bool, true, false, cond, List, ◌∷◌, ◌++◌, Result, Ok, Err, ◌⊎◌, inl, inr, refl, sym, ap, ◌∙◌, subst, append_assoc}
use Rattle.std.proofs.lemmas.Bool.{eqb-true}
use Rattle.std.specs.Prelude.{nat_eq, if◌then◌else◌}
use Rattle.exact_reading.specs.Reading.{◌>>=◌, Reading, made, both, kept, first}

pub record Front {X : Type 0} (P : X → List ℕ → Type 0) (bytes : List ℕ) (x : X) (rest : List ℕ) : Type 0 where
  pub front : List ℕ
  pub split : bytes ≡ front ++ rest
  pub spells : P x front

pub record Exact {F X : Type 0} (P : X → List ℕ → Type 0) (p : List ℕ → Result (X × List ℕ) F) : Type 0 where
  pub sound : (bytes : List ℕ) (r : X × List ℕ) → p bytes ≡ Ok r → Front P bytes r.0 r.1
  pub complete : (x : X) (front rest : List ℕ) → P x front → p (front ++ rest) ≡ Ok (x, rest)

-- R is spelled by P and then Q.
pub record Joins (P Q R : List ℕ → Type 0) : Type 0 where
  pub join : (a b : List ℕ) → P a → Q b → R (a ++ b)
  pub parts : (l : List ℕ) → R l → (a : List ℕ) × (b : List ℕ) × (l ≡ a ++ b) × P a × Q b

-- Steps of reading that succeeded.
abbrev pub okay : {F A : Type 0} → A → Result A F
okay x = Ok x

abbrev pub refused : {F A : Type 0} → F → Result A F
refused f = Err f

pub refused_ok : {F A : Type 0} (f : F) (x : A) → refused f ≡ okay x → ⊥
refused_ok f x e = cc

abbrev value : {F A : Type 0} → A → Result A F → A
value d (Ok x) = x
value d (Err e) = d

pub ok_is : {F A : Type 0} (x y : A) → okay {F = F} x ≡ okay y → x ≡ y
ok_is {F} {A} x y e = ap (λ (r : Result A F). value x r) e

pub bind_ok : {F A B : Type 0} (r : Result A F) (f : A → Result B F) (y : B) → (r >>= f) ≡ Ok y → (x : A) × (r ≡ Ok x) × (f x ≡ Ok y)
bind_ok (Ok x) f y e = (x, refl, e)
bind_ok (Err e) f y h = cc

pub chosen : {A : Type 0} (b : Bool) (x y z : A) → cond b x y ≡ z → ((b ≡ true) × (x ≡ z)) ⊎ ((b ≡ false) × (y ≡ z))
chosen true x y z e = inl (refl, e)
chosen false x y z e = inr (refl, e)

pub test_ok : {F A : Type 0} (b : Bool) (x y : A) (f : F) → cond {A = Result A F} b (Ok x) (Err f) ≡ Ok y → (b ≡ true) × (x ≡ y)
test_ok true x y f e = (refl, ok_is x y e)
test_ok false x y f e = cc

pub if_ok : {F A C : Type 0} {t : Bool} {x y : Result A F} {r : A} → cond t x y ≡ okay r → (t ≡ true → x ≡ okay r → C) → (t ≡ false → y ≡ okay r → C) → C
if_ok {t = true} e f g = f refl e
if_ok {t = false} e f g = g refl e

pub not_ok : {F A : Type 0} {f : F} {x : A} → Err f ≡ okay x → ⊥
not_ok e = cc

pub same_pair : {F X : Type 0} (P : X → List ℕ → Type 0) (bytes : List ℕ) (r s : X × List ℕ) → okay {F = F} r ≡ okay s → Front P bytes r.0 r.1 → Front P bytes s.0 s.1
same_pair P bytes r s e f = subst (λ z. Front P bytes z.0 z.1) (ok_is r s e) f

-- What stands behind what is read.
pub joined : {P Q R : List ℕ → Type 0} → Joins P Q R → (bytes a middle b rest : List ℕ) → bytes ≡ a ++ middle → middle ≡ b ++ rest → P a → Q b → (bytes ≡ (a ++ b) ++ rest) × R (a ++ b)
joined j bytes a middle b rest e f p q = (e ∙ ap (λ l. a ++ l) f ∙ sym (append_assoc a b rest), j.join a b p q)

pub parted : (front a b rest : List ℕ) → front ≡ a ++ b → front ++ rest ≡ a ++ (b ++ rest)
parted front a b rest e = ap (λ l. l ++ rest) e ∙ append_assoc a b rest

-- Another name for what is read.
pub renamed : {F X : Type 0} (P Q : X → List ℕ → Type 0) (p : Reading F X) → ((x : X) (front : List ℕ) → P x front → Q x front) → ((x : X) (front : List ℕ) → Q x front → P x front) → Exact P p → Exact Q p
renamed P Q p to from ep = record {
  sound = λ bytes r e. let a = ep.sound bytes r e in record { front = a.front; split = a.split; spells = to r.0 a.front a.spells };
  complete = λ x front rest h. ep.complete x front rest (from x front h);
}

-- The one, and then the other.
pub both_exact : {F X Y : Type 0} (P : X → List ℕ → Type 0) (Q : Y → List ℕ → Type 0) (R : X × Y → List ℕ → Type 0) (p : Reading F X) (q : Reading F Y) → ((z : X × Y) → Joins (P z.0) (Q z.1) (R z)) → Exact P p → Exact Q q → Exact R (both p q)
both_exact {F} P Q R p q joins ep eq = record {
  sound = λ bytes r e.
      let s = bind_ok (p bytes) _ r e in
      let t = bind_ok (q s.0.1) _ r s.2 in
      let a = ep.sound bytes s.0 s.1 in
      let b = eq.sound s.0.1 t.0 t.1 in
      let j = joined (joins (s.0.0, t.0.0)) bytes a.front s.0.1 b.front t.0.1 a.split b.split a.spells b.spells in
      same_pair R bytes ((s.0.0, t.0.0), t.0.1) r t.2 (record { front = a.front ++ b.front; split = j.0; spells = j.1 });
  complete = λ x front rest h.
      let k = (joins x).parts front h in
      let a : p (front ++ rest) ≡ Ok (x.0, k.1 ++ rest) = ap p (parted front k.0 k.1 rest k.2) ∙ ep.complete x.0 k.0 (k.1 ++ rest) k.3 in
      let b : q (k.1 ++ rest) ≡ Ok (x.1, rest) = eq.complete x.1 k.1 rest k.4 in
      ap (λ (s : Result (_ × List ℕ) F). s >>= λ x. q x.1 >>= λ y. Ok ((x.0, y.0), y.1)) a ∙ ap (λ (s : Result (_ × List ℕ) F). s >>= λ y. Ok ((x.0, y.0), y.1)) b;
}

-- The value is made from what is read.
pub made_sound : {F X Y : Type 0} (P : X → List ℕ → Type 0) (Q : Y → List ℕ → Type 0) (f : X → Y) (p : Reading F X) → Exact P p → ((x : X) (front : List ℕ) → P x front → Q (f x) front) → (bytes : List ℕ) (r : Y × List ℕ) → made f p bytes ≡ Ok r → Front Q bytes r.0 r.1
made_sound P Q f p ep h bytes r e =
    let s = bind_ok (p bytes) _ r e in
    let a = ep.sound bytes s.0 s.1 in
    same_pair Q bytes (f s.0.0, s.0.1) r s.2 (record { front = a.front; split = a.split; spells = h s.0.0 a.front a.spells })

pub made_complete : {F X Y : Type 0} (P : X → List ℕ → Type 0) (f : X → Y) (p : Reading F X) → Exact P p → (x : X) (front rest : List ℕ) → P x front → made f p (front ++ rest) ≡ Ok (f x, rest)
made_complete {F} P f p ep x front rest h = ap (λ (s : Result (_ × List ℕ) F). s >>= λ x. Ok (f x.0, x.1)) (ep.complete x front rest h)

pub made_exact : {F X Y : Type 0} (P : X → List ℕ → Type 0) (Q : Y → List ℕ → Type 0) (f : X → Y) (g : Y → X) (p : Reading F X) → ((y : Y) → f (g y) ≡ y) → ((x : X) (front : List ℕ) → P x front → Q (f x) front) → ((y : Y) (front : List ℕ) → Q y front → P (g y) front) → Exact P p → Exact Q (made f p)
made_exact P Q f g p back to from ep = record {
  sound = made_sound P Q f p ep to;
  complete = λ y front rest h. made_complete P f p ep (g y) front rest (from y front h) ∙ ap (λ z. Ok (z, rest)) (back y);
}

-- A value of which the test holds.
pub kept_exact : {F X : Type 0} (P Q : X → List ℕ → Type 0) (f : F) (test : X → Bool) (p : Reading F X) → Exact P p → ((x : X) (front : List ℕ) → P x front → test x ≡ true → Q x front) → ((x : X) (front : List ℕ) → Q x front → P x front × (test x ≡ true)) → Exact Q (kept f test p)
kept_exact {F} P Q f test p ep to from = record {
  sound = λ bytes r e.
      let s = bind_ok (p bytes) _ r e in
      let t = test_ok (test s.0.0) s.0 r f s.2 in
      let a = ep.sound bytes s.0 s.1 in
      subst (λ z. Front Q bytes z.0 z.1) t.1 (record { front = a.front; split = a.split; spells = to s.0.0 a.front a.spells t.0 });
  complete = λ x front rest h.
      let k = from x front h in
      ap (λ (s : Result (_ × List ℕ) F). s >>= λ x. if test x.0 then Ok x else Err f) (ep.complete x front rest k.0) ∙ ap (λ b. cond b (Ok (x, rest)) (Err f)) k.1;
}

-- A byte, and what it announces.
pub eq_is : (m n : ℕ) → nat_eq m n ≡ true → m ≡ n
eq_is m n e = eqb-true m n e

pub announced : {F X Y : Type 0} (P : X → List ℕ → Type 0) (Q : Y → List ℕ → Type 0) (f : X → Y) (p : Reading F X) → Exact P p → (code b : ℕ) (bs : List ℕ) (r : Y × List ℕ) → b ≡ code → ((x : X) (front : List ℕ) → P x front → Q (f x) (code ∷ front)) → made f p bs ≡ okay r → Front Q (b ∷ bs) r.0 r.1
announced P Q f p ep code b bs r t to h =
    let a = made_sound P (λ y front. Q y (code ∷ front)) f p ep to bs r h in
    record { front = code ∷ a.front; split = ap (λ c. c ∷ bs) t ∙ ap (λ l. code ∷ l) a.split; spells = a.spells }

-- What begins with a byte is read by what the byte chooses.
pub chosen_by : {F X Y : Type 0} (P : X → List ℕ → Type 0) (f : X → Y) (p : Reading F X) → Exact P p → (short : F) (by : ℕ → List ℕ → Result (Y × List ℕ) F) (code : ℕ) → ((rest : List ℕ) → by code rest ≡ made f p rest) → (x : X) (front back rest : List ℕ) → front ≡ code ∷ back → P x back → first short by (front ++ rest) ≡ Ok (f x, rest)
chosen_by P f p ep short by code choice x front back rest e h =
    ap (λ l. first short by (l ++ rest)) e ∙ choice (back ++ rest) ∙ made_complete P f p ep x back rest h
