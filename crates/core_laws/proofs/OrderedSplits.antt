-- Split programs are ordered where the groups of the program make groups before them alone.
use Rattle.std.proofs.Common.{◌≡◌, ℕ, zero, suc, ◌<◌, refl, sym, ap, ◌∙◌, subst, List, [], ◌∷◌, length, map, Option, Some, None}
use Rattle.std.specs.Prelude.{slice_get}
use Rattle.core_ir.specs.declared.constant.Constant.TheVariants as constant
use Rattle.core_ir.specs.declared.code.Operand.{Operand}
use Rattle.core_ir.specs.declared.code.Operand.TheVariants.{Slot, Captured, Member, Global, Constant}
use Rattle.core_ir.specs.Choices.{nth}
use Rattle.core_ir.specs.Programs.{Group, Method}
use Rattle.core_ir.specs.Expressions as core
use Rattle.core_ir.specs.Expressions.{Exp, Constant?, Name, Do, Functions, Try, Exps, NoExp, AnExp, Goal, Operate, Choose, Bind, Throw, Await, Break, Core}
use Rattle.core_ir.specs.Code.{Code, Stop, Let, If, Match, Loop, Label, Branch, Leave, Pass, Make, Call, Tabulate, Send, Wait, Raise, Return, Body}
use Rattle.core_laws.specs.Converted.{Ordered}
use Rattle.core_laws.specs.Earlier.{Earlier, EarlierSegments, EarlierBodies, EarlierGroups}
use Rattle.core_laws.specs.Makes.{Makes, MakesAll, MakesGoal, MakesBodies, MakesGroups, MakesEarlier}
use Rattle.core_laws.specs.Slots.{captured_from}
use Rattle.core_laws.specs.Split.{split_body, split_group, split_method, split_program, size_at}
use Rattle.core_laws.specs.Uses.{use_operand, use_all, picked, uses, uses_segments, needs_of}
use Rattle.core_laws.proofs.ConvertedStates.{mapped, got}
use Rattle.core_laws.proofs.FineCode.{AllOk, Fine, AllFine, body_ok}

-- ---- groups before this one

abbrev Any : Operand → Type 0
Any x = Unit {0}

all_any : (xs : List Operand) (Fits : ℕ → Type 0) → AllOk Fits Any xs
all_any [] Fits = tt
all_any (x ∷ xs) Fits = (tt, all_any xs Fits)

module _ (n : ℕ) where
  abbrev Under : Code → Type 0
  Under = Fine (λ k. k < n) Any

  earlier : (c : Code) → Under c → Earlier n c
  earlier Stop h = tt
  earlier (Let t p xs c) h = earlier c (h.1)
  earlier (If p xs y z c) h = (earlier y (h.1), earlier z (h.2), earlier c (h.3))
  earlier (Match t k x y z c) h = (earlier y (h.1), earlier z (h.2), earlier c (h.3))
  earlier (Loop b c) h = (earlier b (h.0), earlier c (h.1))
  earlier (Label b c) h = (earlier b (h.0), earlier c (h.1))
  earlier (Branch l) h = tt
  earlier (Leave j) h = tt
  earlier (Pass t x j) h = tt
  earlier (Make t seen k c) h = (h.0, earlier c (h.2))
  earlier (Call t f xs c) h = earlier c (h.2)
  earlier (Tabulate t m f c) h = earlier c (h.2)
  earlier (Send t s f xs k c) h = earlier c (h.2)
  earlier (Wait t x k j) h = tt
  earlier (Raise x k) h = tt
  earlier (Return x) h = tt

  earlier_segments : (cs : List Code) → AllFine (λ k. k < n) Any cs → EarlierSegments n cs
  earlier_segments [] h = tt
  earlier_segments (c ∷ cs) h = (earlier c (h.0), earlier_segments cs (h.1))

  earlier_bodies : (sizes : ℕ → ℕ) (m sees : ℕ) (bs : List core.Body) → MakesBodies n bs → EarlierBodies n (map (split_body sizes m sees) bs)
  earlier_bodies sizes m sees [] h = tt
  earlier_bodies sizes m sees (b ∷ bs) h = (
    earlier_segments (split_body sizes m sees b).segments (body_ok (λ k. k < n) Any (λ x. tt) (λ x. tt) (λ x. tt) (λ x. tt) sizes m sees b (h.0) (all_any (captured_from 0 sees) (λ k. k < n))),
    earlier_bodies sizes m sees bs (h.1),
  )

earlier_groups : (sizes : ℕ → ℕ) (n : ℕ) (gs : List (Group core.Body)) → MakesGroups n gs → EarlierGroups n (map (split_group sizes) gs)
earlier_groups sizes n [] h = tt
earlier_groups sizes n (g ∷ gs) h = (earlier_bodies n sizes (length g.bodies) g.sees g.bodies (h.0), earlier_groups sizes (suc n) gs (h.1))

-- ---- bodies without a group

abbrev pub Own : Operand → Type 0
Own (Slot x) = Unit {0}
Own (Captured x) = ⊥
Own (Member m) = Unit {0}
Own (Global i) = Unit {0}
Own (Constant k) = Unit {0}

abbrev pub Each : ℕ → Type 0
Each k = Unit {0}

mutual
  each : (e : Exp) → Makes Each e
  each (Constant? k) = tt
  each (Name x) = tt
  each (core.Global i) = tt
  each (Do goal es) = (each_goal goal, each_all es)
  each (Functions k b) = (tt, each b)
  each (core.Loop b) = each b
  each (core.Label b) = each b
  each (Try a b) = (each a, each b)

  each_all : (es : Exps) → MakesAll Each es
  each_all NoExp = tt
  each_all (AnExp e es) = (each e, each_all es)

  each_goal : (g : Goal) → MakesGoal Each g
  each_goal (Operate p) = tt
  each_goal (Choose p a b) = (each a, each b)
  each_goal (core.Match k a b) = (each a, each b)
  each_goal (Bind b) = each b
  each_goal core.Call = tt
  each_goal core.Tabulate = tt
  each_goal (core.Send s) = tt
  each_goal Throw = tt
  each_goal Await = tt
  each_goal (Break l) = tt
  each_goal core.Return = tt

used : (x : Operand) → Own x → use_operand x [] ≡ []
used (Slot x) h = refl
used (Captured x) h = absurd h
used (Member m) h = refl
used (Global i) h = refl
used (Constant k) h = refl

used_all : (xs : List Operand) → AllOk Each Own xs → use_all xs [] ≡ []
used_all [] h = refl
used_all (x ∷ xs) h = ap (use_all xs) (used x (h.0)) ∙ used_all xs (h.1)

owned : (seen : List Operand) (x : ℕ) → AllOk Each Own seen → Own (nth (Constant constant.Unit) seen x)
owned [] x h = tt
owned (y ∷ seen) zero h = h.0
owned (y ∷ seen) (suc x) h = owned seen x (h.1)

picked_own : (seen : List Operand) (xs : List ℕ) → AllOk Each Own seen → AllOk Each Own (picked seen xs)
picked_own seen [] h = tt
picked_own seen (x ∷ xs) h = (owned seen x h, picked_own seen xs h)

module _ (needs : List (List ℕ)) where
  uses_none : (c : Code) → Fine Each Own c → uses needs c [] ≡ []
  uses_none Stop h = refl
  uses_none (Let t p xs c) h = ap (uses needs c) (used_all xs (h.0)) ∙ uses_none c (h.1)
  uses_none (If p xs y n c) h =
      ap (λ u. uses needs c (uses needs n (uses needs y u))) (used_all xs (h.0)) ∙ ap (λ u. uses needs c (uses needs n u)) (uses_none y (h.1)) ∙ ap (uses needs c) (uses_none n (h.2)) ∙ uses_none c (h.3)
  uses_none (Match t k x y n c) h =
      ap (λ u. uses needs c (uses needs n (uses needs y u))) (used x (h.0)) ∙ ap (λ u. uses needs c (uses needs n u)) (uses_none y (h.1)) ∙ ap (uses needs c) (uses_none n (h.2)) ∙ uses_none c (h.3)
  uses_none (Loop b c) h = ap (uses needs c) (uses_none b (h.0)) ∙ uses_none c (h.1)
  uses_none (Label b c) h = ap (uses needs c) (uses_none b (h.0)) ∙ uses_none c (h.1)
  uses_none (Branch l) h = refl
  uses_none (Leave j) h = refl
  uses_none (Pass t x j) h = used x h
  uses_none (Make t seen k c) h = ap (uses needs c) (used_all (picked seen (nth [] needs k)) (picked_own seen (nth [] needs k) (h.1))) ∙ uses_none c (h.2)
  uses_none (Call t f xs c) h = ap (λ u. uses needs c (use_all xs u)) (used f (h.0)) ∙ ap (uses needs c) (used_all xs (h.1)) ∙ uses_none c (h.2)
  uses_none (Tabulate t n f c) h = ap (λ u. uses needs c (use_operand f u)) (used n (h.0)) ∙ ap (uses needs c) (used f (h.1)) ∙ uses_none c (h.2)
  uses_none (Send t s f xs k c) h = ap (λ u. uses needs c (use_all xs u)) (used f (h.0)) ∙ ap (uses needs c) (used_all xs (h.1)) ∙ uses_none c (h.2)
  uses_none (Wait t x k j) h = used x h
  uses_none (Raise x k) h = used x h
  uses_none (Return x) h = used x h

  pub segments_none : (cs : List Code) → AllFine Each Own cs → uses_segments needs cs [] ≡ []
  segments_none [] h = refl
  segments_none (c ∷ cs) h = ap (uses_segments needs cs) (uses_none c (h.0)) ∙ segments_none cs (h.1)

  body_none : (sizes : ℕ → ℕ) (b : core.Body) → uses_segments needs (split_body sizes 0 0 b).segments [] ≡ []
  body_none sizes b =
      segments_none (split_body sizes 0 0 b).segments (body_ok Each Own (λ x. tt) (λ x. tt) (λ x. tt) (λ x. tt) sizes 0 0 b (each b.expression) tt)

  method_none : (sizes : ℕ → ℕ) (ms : List (Method core.Body)) (m : ℕ) (x : Method Body) → slice_get (map (split_method sizes) ms) m ≡ Some x → uses_segments needs x.body.segments [] ≡ []
  method_none sizes ms m x e = by (slice_get ms m) (sym (got (split_method sizes) ms m) ∙ e)
    where
      by : (o : Option (Method core.Body)) → mapped (split_method sizes) o ≡ Some x → uses_segments needs x.body.segments [] ≡ []
      by None i = absurd (let z : None ≡ Some x = i in cc)
      by (Some y) i = subst (λ (x : Method Body). uses_segments needs x.body.segments [] ≡ []) (let z : split_method sizes y ≡ x = cc in z) (body_none sizes y.body)

pub ordered_splits : (p : Core) → MakesEarlier p → Ordered (split_program p)
ordered_splits p h =
    let sizes = size_at p.groups in
    let needs = needs_of [] (split_program p).groups in
    record {
      groups = earlier_groups sizes 0 p.groups h;
      methods = λ m x e. method_none needs sizes p.methods m x e;
      save = body_none needs sizes p.save;
      start = body_none needs sizes p.start;
    }
