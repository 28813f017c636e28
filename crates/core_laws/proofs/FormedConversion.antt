-- Converted programs of formed split programs are formed.
use Rattle.std.proofs.Common.{◌≡◌, ℕ, zero, suc, ◌+◌, ◌*◌, ◌<◌, ◌≤◌, refl, sym, ap, ◌∙◌, subst, List, [], ◌∷◌, length, map, Option, Some, None, Bool, true, false, arith as arithmetic}
use Rattle.std.specs.Prelude.{cond, nat_eq, slice_get}
use Rattle.std.specs.List.{AllByRecursion}
use Rattle.core_ir.specs.declared.constant.Constant.TheVariants as constant
use Rattle.core_ir.specs.declared.code.Operand.{Operand}
use Rattle.core_ir.specs.declared.code.Operand.TheVariants.{Slot, Captured, Member, Global, Constant}
use Rattle.core_ir.specs.declared.code.Way.{Way}
use Rattle.core_ir.specs.declared.code.Way.TheVariants.{Near, Far}
use Rattle.core_ir.specs.declared.code.Handler.{Handler}
use Rattle.core_ir.specs.Arities as arities
use Rattle.core_ir.specs.Choices.{nth}
use Rattle.core_ir.specs.Programs.{Group, Method}
use Rattle.core_ir.specs.Code.{Code, Stop, Let, If, Match, Loop, Label, Branch, Leave, Pass, Make, Call, Tabulate, Send, Wait, Raise, Return, Body, CodeProgram, nodes_of}
use Rattle.core_ir.specs.Formed.{size_at, sees_at, global_count, counted, counted_groups, FormedCodeBody, FormedCodeGroups, FormedCode, PaidGroups}
use Rattle.core_ir.specs.FormedCode as form
use Rattle.core_ir.specs.FormedCode.{most_operands, most_of, nesting}
use Rattle.core_laws.specs.Conversion.{index, seen_as, convert, convert_body, convert_groups, convert_method, convert_program}
use Rattle.core_laws.specs.Converted.{Ordered}
use Rattle.core_laws.specs.Earlier.{Earlier, EarlierSegments, EarlierBodies, EarlierGroups}
use Rattle.core_laws.specs.FormedSplits.{PaidUses}
use Rattle.core_laws.specs.Laws.{ConversionForms, FormedOrder}
use Rattle.core_laws.specs.Uses.{holds, picked, needs_of}
use Rattle.core_laws.proofs.FineCode.{Fine, AllFine}
use Rattle.core_laws.proofs.FineCode as fine
use Rattle.core_laws.proofs.FormedCodes.{length_map, named_same}
use Rattle.core_laws.proofs.OrderedSplits.{Own, Each, segments_none}
use Rattle.core_laws.proofs.Seen.{SeesOperand, SeesOperands, Sees, SeesSegments, SeesBodies}
use Rattle.core_laws.proofs.UsesSuffice.{all_suffice}

-- ---- operands

index_within : (x : ℕ) (used : List ℕ) → holds x used ≡ true → index x used < length used
index_within x [] h = absurd (let z : false ≡ true = h in cc)
index_within x (y ∷ used) h = by (nat_eq y x) h (index_within x used)
  where
    by : (b : Bool) → cond b true (holds x used) ≡ true → (holds x used ≡ true → index x used < length used) → cond b 0 (suc (index x used)) < suc (length used)
    by true i f = omega arithmetic
    by false i f = let a = f i in omega (arithmetic, a)

length_picked : (seen : List Operand) (xs : List ℕ) → length (picked seen xs) ≡ length xs
length_picked seen [] = refl
length_picked seen (x ∷ xs) = ap suc (length_picked seen xs)

-- ---- code; the old and the new counts of groups

module _ (sizes sees sizes' sees' : ℕ → ℕ) (globals bound : ℕ) (shared : Bool) (needs : List (List ℕ)) (used : List ℕ) (slots total size seen : ℕ)
    (same : (k : ℕ) → sizes' k ≡ sizes k) (picks : (k : ℕ) → k < bound → sees' k ≡ length (nth [] needs k)) where
  abbrev Old : ℕ → Code → Type 0
  Old n c = form.FormedCode sizes sees globals bound shared slots total size seen n c

  abbrev New : ℕ → Code → Type 0
  New n c = form.FormedCode sizes' sees' globals bound shared slots total size (length used) n c

  abbrev OldOk : Operand → Type 0
  OldOk x = form.FormedOperand sizes sees globals bound shared slots total size seen x

  abbrev NewOk : Operand → Type 0
  NewOk x = form.FormedOperand sizes' sees' globals bound shared slots total size (length used) x

  abbrev OldAll : List Operand → Type 0
  OldAll xs = form.FormedOperands sizes sees globals bound shared slots total size seen xs

  abbrev NewAll : List Operand → Type 0
  NewAll xs = form.FormedOperands sizes' sees' globals bound shared slots total size (length used) xs

  one : (x : Operand) → OldOk x → SeesOperand needs used x → NewOk (seen_as used x)
  one (Slot x) h i = h
  one (Captured x) h i = index_within x used i
  one (Member m) h i = h
  one (Global g) h i = h
  one (Constant k) h i = tt

  all : (xs : List Operand) → OldAll xs → SeesOperands needs used xs → NewAll (map (seen_as used) xs)
  all [] h i = tt
  all (x ∷ xs) h i = (one x (h.0) (i.0), all xs (h.1) (i.1))

  at : (xs : List Operand) (x : ℕ) → OldAll xs → OldOk (nth (Constant constant.Unit) xs x)
  at [] x h = tt
  at (y ∷ xs) zero h = h.0
  at (y ∷ xs) (suc x) h = at xs x (h.1)

  some : (xs : List Operand) (ks : List ℕ) → OldAll xs → OldAll (picked xs ks)
  some xs [] h = tt
  some xs (k ∷ ks) h = (at xs k h, some xs ks h)

  way : (n : ℕ) (w : Way) → form.FormedWay sizes sees globals bound shared slots total size seen n w → form.FormedWay sizes' sees' globals bound shared slots total size (length used) n w
  way n (Near l) h = h
  way n (Far j) h = h

  handler : (n : ℕ) (o : Option Handler) → form.FormedHandler sizes sees globals bound shared slots total size seen n o → form.FormedHandler sizes' sees' globals bound shared slots total size (length used) n o
  handler n None h = tt
  handler n (Some x) h = (h.0, way n x.way (h.1))

  takes : (p : Option ℕ) (xs : List Operand) → arities.Takes p (length xs) → arities.Takes p (length (map (seen_as used) xs))
  takes p xs h = subst (λ m. arities.Takes p m) (sym (length_map (seen_as used) xs)) h

  code_formed : (n : ℕ) (c : Code) → Old n c → Sees needs used c → New n (convert needs used c)
  code_formed n Stop h s = h
  code_formed n (Let t p xs c) h s = (h.0, takes (arities.arity p) xs (h.1), all xs (h.2) (s.0), code_formed n c (h.3) (s.1))
  code_formed n (If p xs y m c) h s = (takes (arities.arity p) xs (h.0), h.1, all xs (h.2) (s.0), code_formed (suc n) y (h.3) (s.1), code_formed (suc n) m (h.4) (s.2), code_formed n c (h.5) (s.3))
  code_formed n (Match t k x y m c) h s = (h.0, one x (h.1) (s.0), code_formed (suc n) y (h.2) (s.1), code_formed (suc n) m (h.3) (s.2), code_formed n c (h.4) (s.3))
  code_formed n (Loop b c) h s = (code_formed (suc n) b (h.0) (s.0), code_formed n c (h.1) (s.1))
  code_formed n (Label b c) h s = (code_formed (suc n) b (h.0) (s.0), code_formed n c (h.1) (s.1))
  code_formed n (Branch l) h s = h
  code_formed n (Leave j) h s = h
  code_formed n (Pass t x j) h s = (h.0, h.1, one x (h.2) s, h.3)
  code_formed n (Make t xs k c) h s =
      let ks = nth [] needs k in
      (subst (λ m. t + m ≤ slots) (sym (same k)) (h.0), h.1, length_map (seen_as used) (picked xs ks) ∙ length_picked xs ks ∙ sym (picks k (h.1)), all (picked xs ks) (some xs ks (h.3)) (s.0), code_formed n c (h.4) (s.1))
  code_formed n (Call t f xs c) h s = (h.0, one f (h.1) (s.0), all xs (h.2) (s.1), code_formed n c (h.3) (s.2))
  code_formed n (Tabulate t m f c) h s = (h.0, one m (h.1) (s.0), one f (h.2) (s.1), code_formed n c (h.3) (s.2))
  code_formed n (Send t g f xs k c) h s = (h.0, h.1, one f (h.2) (s.0), length_map (seen_as used) xs ∙ h.3, all xs (h.4) (s.1), handler n k (h.5), code_formed n c (h.6) (s.2))
  code_formed n (Wait t x k j) h s = (h.0, h.1, one x (h.2) s, handler n k (h.3), h.4)
  code_formed n (Raise x k) h s = (h.0, one x (h.1) s, handler n k (h.2))
  code_formed n (Return x) h s = one x h s

  segments_formed : (cs : List Code) → form.FormedSegments sizes sees globals bound shared slots total size seen cs → SeesSegments needs used cs
      → form.FormedSegments sizes' sees' globals bound shared slots total size (length used) (map (convert needs used) cs)
  segments_formed [] h s = tt
  segments_formed (c ∷ cs) h s = (code_formed 0 c (h.0) (s.0), segments_formed cs (h.1) (s.1))

-- what it takes of a frame

module _ (needs : List (List ℕ)) (used : List ℕ) where
  operands_same : (c : Code) → most_operands (convert needs used c) ≡ most_operands c
  operands_same Stop = refl
  operands_same (Let t p xs c) = let a = length_map (seen_as used) xs in let b = operands_same c in cc
  operands_same (If p xs y n c) = let a = length_map (seen_as used) xs in let b = operands_same c in let d = operands_same y in let e = operands_same n in cc
  operands_same (Match t k x y n c) = let b = operands_same c in let d = operands_same y in let e = operands_same n in cc
  operands_same (Loop b c) = let d = operands_same b in let e = operands_same c in cc
  operands_same (Label b c) = let d = operands_same b in let e = operands_same c in cc
  operands_same (Branch l) = refl
  operands_same (Leave j) = refl
  operands_same (Pass t x j) = refl
  operands_same (Make t seen k c) = let b = operands_same c in cc
  operands_same (Call t f xs c) = let a = length_map (seen_as used) xs in let b = operands_same c in cc
  operands_same (Tabulate t n f c) = let b = operands_same c in cc
  operands_same (Send t s f xs h c) = let a = length_map (seen_as used) xs in let b = operands_same c in cc
  operands_same (Wait t x h j) = refl
  operands_same (Raise x h) = refl
  operands_same (Return x) = refl

  nesting_same : (c : Code) → nesting (convert needs used c) ≡ nesting c
  nesting_same Stop = refl
  nesting_same (Let t p xs c) = nesting_same c
  nesting_same (If p xs y n c) = let b = nesting_same c in let d = nesting_same y in let e = nesting_same n in cc
  nesting_same (Match t k x y n c) = let b = nesting_same c in let d = nesting_same y in let e = nesting_same n in cc
  nesting_same (Loop b c) = let d = nesting_same b in let e = nesting_same c in cc
  nesting_same (Label b c) = let d = nesting_same b in let e = nesting_same c in cc
  nesting_same (Branch l) = refl
  nesting_same (Leave j) = refl
  nesting_same (Pass t x j) = refl
  nesting_same (Make t seen k c) = nesting_same c
  nesting_same (Call t f xs c) = nesting_same c
  nesting_same (Tabulate t n f c) = nesting_same c
  nesting_same (Send t s f xs h c) = nesting_same c
  nesting_same (Wait t x h j) = refl
  nesting_same (Raise x h) = refl
  nesting_same (Return x) = refl

  most_same : (f : Code → ℕ) → ((c : Code) → f (convert needs used c) ≡ f c) → (cs : List Code) → most_of f (map (convert needs used) cs) ≡ most_of f cs
  most_same f e [] = refl
  most_same f e (c ∷ cs) = let a = e c in let b = most_same f e cs in cc

  pub nodes_same : (bs : List Body) → nodes_of (map (convert_body needs used) bs) ≡ nodes_of bs
  nodes_same [] = refl
  nodes_same (b ∷ bs) = let r = nodes_same bs in cc

module _ (sizes sees sizes' sees' : ℕ → ℕ) (globals bound : ℕ) (shared : Bool) (needs : List (List ℕ)) (used : List ℕ) (size seen : ℕ)
    (same : (k : ℕ) → sizes' k ≡ sizes k) (picks : (k : ℕ) → k < bound → sees' k ≡ length (nth [] needs k)) where
  pub body_converted : (b : Body) → form.FormedBody sizes sees globals bound shared size seen b → SeesSegments needs used b.segments → form.FormedBody sizes' sees' globals bound shared size (length used) (convert_body needs used b)
  body_converted b h s =
      let many : length (map (convert needs used) b.segments) ≡ length b.segments = length_map (convert needs used) b.segments in
      record {
        begins = (let a = h.begins in omega (arithmetic, many, a));
        parameters = h.parameters;
        segments = subst (λ n. form.FormedSegments sizes' sees' globals bound shared b.slots n size (length used) (map (convert needs used) b.segments)) (sym many)
            (segments_formed sizes sees sizes' sees' globals bound shared needs used b.slots (length b.segments) size seen same picks b.segments h.segments s);
        frame =
            let a = most_same needs used most_operands (operands_same needs used) b.segments in
            let d = most_same needs used nesting (nesting_same needs used) b.segments in
            let f = h.frame in
            omega (arithmetic, a, d, f);
      }

-- ---- what groups use

module _ (sizes sees : ℕ → ℕ) (globals bound : ℕ) (shared : Bool) (slots total size seen : ℕ) where
  abbrev Is : ℕ → Code → Type 0
  Is n c = form.FormedCode sizes sees globals bound shared slots total size seen n c

  earlier : (n : ℕ) (c : Code) → Is n c → Earlier bound c
  earlier n Stop h = tt
  earlier n (Let t p xs c) h = earlier n c (h.3)
  earlier n (If p xs y m c) h = (earlier (suc n) y (h.3), earlier (suc n) m (h.4), earlier n c (h.5))
  earlier n (Match t k x y m c) h = (earlier (suc n) y (h.2), earlier (suc n) m (h.3), earlier n c (h.4))
  earlier n (Loop b c) h = (earlier (suc n) b (h.0), earlier n c (h.1))
  earlier n (Label b c) h = (earlier (suc n) b (h.0), earlier n c (h.1))
  earlier n (Branch l) h = tt
  earlier n (Leave j) h = tt
  earlier n (Pass t x j) h = tt
  earlier n (Make t xs k c) h = (h.1, earlier n c (h.4))
  earlier n (Call t f xs c) h = earlier n c (h.3)
  earlier n (Tabulate t m f c) h = earlier n c (h.3)
  earlier n (Send t s f xs k c) h = earlier n c (h.6)
  earlier n (Wait t x k j) h = tt
  earlier n (Raise x k) h = tt
  earlier n (Return x) h = tt

  pub earlier_segments : (cs : List Code) → form.FormedSegments sizes sees globals bound shared slots total size seen cs → EarlierSegments bound cs
  earlier_segments [] h = tt
  earlier_segments (c ∷ cs) h = (earlier 0 c (h.0), earlier_segments cs (h.1))

-- bodies that see nothing
module _ (sizes sees : ℕ → ℕ) (globals bound : ℕ) (shared : Bool) (slots total size : ℕ) where
  own_one : (x : Operand) → form.FormedOperand sizes sees globals bound shared slots total size 0 x → Own x
  own_one (Slot x) h = tt
  own_one (Captured x) h = absurd (omega (arithmetic, h))
  own_one (Member m) h = tt
  own_one (Global g) h = tt
  own_one (Constant k) h = tt

  own_all : (xs : List Operand) → form.FormedOperands sizes sees globals bound shared slots total size 0 xs → fine.AllOk Each Own xs
  own_all [] h = tt
  own_all (x ∷ xs) h = (own_one x (h.0), own_all xs (h.1))

  own_code : (n : ℕ) (c : Code) → form.FormedCode sizes sees globals bound shared slots total size 0 n c → Fine Each Own c
  own_code n Stop h = tt
  own_code n (Let t p xs c) h = (own_all xs (h.2), own_code n c (h.3))
  own_code n (If p xs y m c) h = (own_all xs (h.2), own_code (suc n) y (h.3), own_code (suc n) m (h.4), own_code n c (h.5))
  own_code n (Match t k x y m c) h = (own_one x (h.1), own_code (suc n) y (h.2), own_code (suc n) m (h.3), own_code n c (h.4))
  own_code n (Loop b c) h = (own_code (suc n) b (h.0), own_code n c (h.1))
  own_code n (Label b c) h = (own_code (suc n) b (h.0), own_code n c (h.1))
  own_code n (Branch l) h = tt
  own_code n (Leave j) h = tt
  own_code n (Pass t x j) h = own_one x (h.2)
  own_code n (Make t xs k c) h = (tt, own_all xs (h.3), own_code n c (h.4))
  own_code n (Call t f xs c) h = (own_one f (h.1), own_all xs (h.2), own_code n c (h.3))
  own_code n (Tabulate t m f c) h = (own_one m (h.1), own_one f (h.2), own_code n c (h.3))
  own_code n (Send t s f xs k c) h = (own_one f (h.2), own_all xs (h.4), own_code n c (h.6))
  own_code n (Wait t x k j) h = own_one x (h.2)
  own_code n (Raise x k) h = own_one x (h.1)
  own_code n (Return x) h = own_one x h

  pub own_segments : (cs : List Code) → form.FormedSegments sizes sees globals bound shared slots total size 0 cs → AllFine Each Own cs
  own_segments [] h = tt
  own_segments (c ∷ cs) h = (own_code 0 c (h.0), own_segments cs (h.1))

  module _ (needs : List (List ℕ)) where
    none_one : (x : Operand) → Own x → SeesOperand needs [] x
    none_one (Slot x) h = tt
    none_one (Captured x) h = absurd h
    none_one (Member m) h = tt
    none_one (Global g) h = tt
    none_one (Constant k) h = tt

    none_all : (xs : List Operand) → fine.AllOk Each Own xs → SeesOperands needs [] xs
    none_all [] h = tt
    none_all (x ∷ xs) h = (none_one x (h.0), none_all xs (h.1))

    none_at : (xs : List Operand) (x : ℕ) → fine.AllOk Each Own xs → SeesOperand needs [] (nth (Constant constant.Unit) xs x)
    none_at [] x h = tt
    none_at (y ∷ xs) zero h = none_one y (h.0)
    none_at (y ∷ xs) (suc x) h = none_at xs x (h.1)

    none_picked : (xs : List Operand) (ks : List ℕ) → fine.AllOk Each Own xs → SeesOperands needs [] (picked xs ks)
    none_picked xs [] h = tt
    none_picked xs (k ∷ ks) h = (none_at xs k h, none_picked xs ks h)

    none_code : (c : Code) → Fine Each Own c → Sees needs [] c
    none_code Stop h = tt
    none_code (Let t p xs c) h = (none_all xs (h.0), none_code c (h.1))
    none_code (If p xs y m c) h = (none_all xs (h.0), none_code y (h.1), none_code m (h.2), none_code c (h.3))
    none_code (Match t k x y m c) h = (none_one x (h.0), none_code y (h.1), none_code m (h.2), none_code c (h.3))
    none_code (Loop b c) h = (none_code b (h.0), none_code c (h.1))
    none_code (Label b c) h = (none_code b (h.0), none_code c (h.1))
    none_code (Branch l) h = tt
    none_code (Leave j) h = tt
    none_code (Pass t x j) h = none_one x h
    none_code (Make t xs k c) h = (none_picked xs (nth [] needs k) (h.1), none_code c (h.2))
    none_code (Call t f xs c) h = (none_one f (h.0), none_all xs (h.1), none_code c (h.2))
    none_code (Tabulate t m f c) h = (none_one m (h.0), none_one f (h.1), none_code c (h.2))
    none_code (Send t s f xs k c) h = (none_one f (h.0), none_all xs (h.1), none_code c (h.2))
    none_code (Wait t x k j) h = none_one x h
    none_code (Raise x k) h = none_one x h
    none_code (Return x) h = none_one x h

    pub none_segments : (cs : List Code) → AllFine Each Own cs → SeesSegments needs [] cs
    none_segments [] h = tt
    none_segments (c ∷ cs) h = (none_code c (h.0), none_segments cs (h.1))

-- ---- programs

module _ (needs : List (List ℕ)) where
  size_kept : (all : List (List ℕ)) (gs : List (Group Body)) (k : ℕ) → size_at (convert_groups needs all gs) k ≡ size_at gs k
  size_kept [] [] k = refl
  size_kept (u ∷ all) [] k = refl
  size_kept [] (g ∷ gs) zero = length_map (convert_body needs []) g.bodies
  size_kept [] (g ∷ gs) (suc k) = size_kept [] gs k
  size_kept (u ∷ all) (g ∷ gs) zero = length_map (convert_body needs u) g.bodies
  size_kept (u ∷ all) (g ∷ gs) (suc k) = size_kept all gs k

  sees_kept : (all : List (List ℕ)) (gs : List (Group Body)) (k : ℕ) → k < length gs → sees_at (convert_groups needs all gs) k ≡ length (nth [] all k)
  sees_kept [] [] k h = refl
  sees_kept (u ∷ all) [] k h = absurd (omega (arithmetic, h))
  sees_kept [] (g ∷ gs) zero h = refl
  sees_kept [] (g ∷ gs) (suc k) h = sees_kept [] gs k (omega (arithmetic, h))
  sees_kept (u ∷ all) (g ∷ gs) zero h = refl
  sees_kept (u ∷ all) (g ∷ gs) (suc k) h = sees_kept all gs k (omega (arithmetic, h))

  length_kept : (all : List (List ℕ)) (gs : List (Group Body)) → length (convert_groups needs all gs) ≡ length gs
  length_kept [] [] = refl
  length_kept (u ∷ all) [] = refl
  length_kept [] (g ∷ gs) = ap suc (length_kept [] gs)
  length_kept (u ∷ all) (g ∷ gs) = ap suc (length_kept all gs)

  bodies_many : (used : List ℕ) (bs : List Body) → counted (λ (b : Body). length b.segments) (map (convert_body needs used) bs) ≡ counted (λ (b : Body). length b.segments) bs
  bodies_many used [] = refl
  bodies_many used (b ∷ bs) = let a = length_map (convert needs used) b.segments in let c = bodies_many used bs in cc

  groups_many : (all : List (List ℕ)) (gs : List (Group Body)) → counted_groups (λ (b : Body). length b.segments) (convert_groups needs all gs) ≡ counted_groups (λ (b : Body). length b.segments) gs
  groups_many [] [] = refl
  groups_many (u ∷ all) [] = refl
  groups_many [] (g ∷ gs) = let a = bodies_many [] g.bodies in let c = groups_many [] gs in cc
  groups_many (u ∷ all) (g ∷ gs) = let a = bodies_many u g.bodies in let c = groups_many all gs in cc

  methods_many : (ms : List (Method Body)) → counted (λ (b : Body). length b.segments) (map (λ (m : Method Body). m.body) (map (convert_method needs) ms)) ≡ counted (λ (b : Body). length b.segments) (map (λ (m : Method Body). m.body) ms)
  methods_many [] = refl
  methods_many (m ∷ ms) = let a = length_map (convert needs []) m.body.segments in let c = methods_many ms in cc

  groups_paid : (all : List (List ℕ)) (gs : List (Group Body)) → PaidUses all gs → PaidGroups (convert_groups needs all gs)
  groups_paid [] [] h = tt
  groups_paid (u ∷ all) [] h = tt
  groups_paid [] (g ∷ gs) h =
      let a = length_map (convert_body needs []) g.bodies in let b = nodes_same needs [] g.bodies in let c = h.0 in
      ((let z : 2 * length (map (convert_body needs []) g.bodies) + 0 ≤ 4 * (1 + nodes_of (map (convert_body needs []) g.bodies)) = omega (arithmetic, a, b, c) in z), groups_paid [] gs (h.1))
  groups_paid (u ∷ all) (g ∷ gs) h =
      let a = length_map (convert_body needs u) g.bodies in let b = nodes_same needs u g.bodies in let c = h.0 in
      ((let z : 2 * length (map (convert_body needs u) g.bodies) + length u ≤ 4 * (1 + nodes_of (map (convert_body needs u) g.bodies)) = omega (arithmetic, a, b, c) in z), groups_paid all gs (h.1))

module _ (own : ℕ) (p : CodeProgram) (h : FormedCode own p) where
  abbrev needs : List (List ℕ)
  needs = needs_of [] p.groups

  abbrev q : CodeProgram
  q = convert_program p

  bodies_earlier : (n size seen : ℕ) (bs : List Body) → AllByRecursion (λ b. FormedCodeBody own p n false size seen b) bs → EarlierBodies n bs
  bodies_earlier n size seen [] f = tt
  bodies_earlier n size seen (b ∷ bs) f =
      (earlier_segments (size_at p.groups) (sees_at p.groups) (global_count p own) n false b.slots (length b.segments) size seen b.segments (f.0).segments, bodies_earlier n size seen bs (f.1))

  groups_earlier : (n : ℕ) (gs : List (Group Body)) → FormedCodeGroups own p n gs → EarlierGroups n gs
  groups_earlier n [] f = tt
  groups_earlier n (g ∷ gs) f = (bodies_earlier n (length g.bodies) g.sees g.bodies (f.0), groups_earlier (suc n) gs (f.1))

  own_body : (bound : ℕ) (shared : Bool) (b : Body) → FormedCodeBody own p bound shared 0 0 b → AllFine Each Own b.segments
  own_body bound shared b f = own_segments (size_at p.groups) (sees_at p.groups) (global_count p own) bound shared b.slots (length b.segments) 0 b.segments f.segments

  method_own : (n : ℕ) (ms : List (Method Body)) (m : ℕ) (x : Method Body) → AllByRecursion (λ (m : Method Body). FormedCodeBody own p n true 0 0 m.body) ms → slice_get ms m ≡ Some x → AllFine Each Own x.body.segments
  method_own n [] m x f e = absurd (let z : None ≡ Some x = e in cc)
  method_own n (y ∷ ms) zero x f e = subst (λ (m : Method Body). AllFine Each Own m.body.segments) (let z : y ≡ x = cc in z) (own_body n true y.body (f.0))
  method_own n (y ∷ ms) (suc m) x f e = method_own n ms m x (f.1) e

  formed_ordered : Ordered p
  formed_ordered = record {
    groups = groups_earlier 0 p.groups h.groups;
    methods = λ m x e. segments_none needs x.body.segments (method_own (length p.groups) p.methods m x h.methods e);
    save = segments_none needs p.save.segments (own_body (length p.groups) false p.save h.save);
    start = segments_none needs p.start.segments (own_body (length p.groups) false p.start h.start);
  }

  globals_same : global_count q own ≡ global_count p own
  globals_same = ap (λ n. suc (n + own)) (length_map (convert_method needs) p.methods)

  picks : (n : ℕ) → n ≤ length p.groups → (k : ℕ) → k < n → sees_at q.groups k ≡ length (nth [] needs k)
  picks n l k i = sees_kept needs needs p.groups k (omega (arithmetic, l, i))

  one_converted : (bound : ℕ) → bound ≤ length p.groups → (shared : Bool) (size seen : ℕ) (used : List ℕ) (b : Body) → FormedCodeBody own p bound shared size seen b → SeesSegments needs used b.segments
      → FormedCodeBody own q bound shared size (length used) (convert_body needs used b)
  one_converted bound l shared size seen used b f s =
      subst (λ n. form.FormedBody (size_at q.groups) (sees_at q.groups) n bound shared size (length used) (convert_body needs used b)) (sym globals_same)
      (body_converted (size_at p.groups) (sees_at p.groups) (size_at q.groups) (sees_at q.groups) (global_count p own) bound shared needs used size seen (size_kept needs needs p.groups) (picks bound l) b f s)

  bodies_converted : (bound : ℕ) → bound ≤ length p.groups → (size seen : ℕ) (used : List ℕ) (bs : List Body) → AllByRecursion (λ b. FormedCodeBody own p bound false size seen b) bs → SeesBodies needs used bs
      → AllByRecursion (λ b. FormedCodeBody own q bound false size (length used) b) (map (convert_body needs used) bs)
  bodies_converted bound l size seen used [] f s = tt
  bodies_converted bound l size seen used (b ∷ bs) f s = (one_converted bound l false size seen used b (f.0) (s.0), bodies_converted bound l size seen used bs (f.1) (s.1))

  group_converted : (n : ℕ) → n ≤ length p.groups → (used : List ℕ) (g : Group Body) → AllByRecursion (λ b. FormedCodeBody own p n false (length g.bodies) g.sees b) g.bodies → SeesBodies needs used g.bodies
      → AllByRecursion (λ b. FormedCodeBody own q n false (length (map (convert_body needs used) g.bodies)) (length used) b) (map (convert_body needs used) g.bodies)
  group_converted n l used g f s =
      subst (λ m. AllByRecursion (λ b. FormedCodeBody own q n false m (length used) b) (map (convert_body needs used) g.bodies)) (sym (length_map (convert_body needs used) g.bodies))
      (bodies_converted n l (length g.bodies) g.sees used g.bodies f s)

  groups_converted : (n : ℕ) (all : List (List ℕ)) (gs : List (Group Body)) → n + length gs ≤ length p.groups → FormedCodeGroups own p n gs
      → ((k : ℕ) (g : Group Body) → slice_get gs k ≡ Some g → SeesBodies needs (nth [] all k) g.bodies) → FormedCodeGroups own q n (convert_groups needs all gs)
  groups_converted n [] [] l f s = tt
  groups_converted n (u ∷ all) [] l f s = tt
  groups_converted n [] (g ∷ gs) l f s = (group_converted n (omega (arithmetic, l)) [] g (f.0) (s 0 g refl), groups_converted (suc n) [] gs (omega (arithmetic, l)) (f.1) (λ k x e. s (suc k) x e))
  groups_converted n (u ∷ all) (g ∷ gs) l f s = (group_converted n (omega (arithmetic, l)) u g (f.0) (s 0 g refl), groups_converted (suc n) all gs (omega (arithmetic, l)) (f.1) (λ k x e. s (suc k) x e))

  enters : (shared : Bool) (b : Body) → FormedCodeBody own p (length p.groups) shared 0 0 b → FormedCodeBody own q (length p.groups) shared 0 0 (convert_body needs [] b)
  enters shared b f =
      one_converted (length p.groups) (omega arithmetic) shared 0 0 [] b f
      (none_segments (size_at p.groups) (sees_at p.groups) (global_count p own) (length p.groups) shared b.slots (length b.segments) 0 needs b.segments (own_body (length p.groups) shared b f))

  methods_converted : (ms : List (Method Body)) → AllByRecursion (λ (m : Method Body). FormedCodeBody own p (length p.groups) true 0 0 m.body) ms
      → AllByRecursion (λ (m : Method Body). FormedCodeBody own q (length p.groups) true 0 0 m.body) (map (convert_method needs) ms)
  methods_converted [] f = tt
  methods_converted (m ∷ ms) f = (enters true m.body (f.0), methods_converted ms (f.1))

  pub code_converted : FormedCode own q
  code_converted =
      let many : length q.groups ≡ length p.groups = length_kept needs needs p.groups in
      record {
        groups = groups_converted 0 needs p.groups (omega arithmetic) h.groups
            (λ k g e. subst (λ x. SeesBodies needs (nth [] needs x) g.bodies) (let z : 0 + k ≡ k = omega arithmetic in z) (all_suffice p.groups [] 0 refl (groups_earlier 0 p.groups h.groups) k g e));
        methods = subst (λ n. AllByRecursion (λ (m : Method Body). FormedCodeBody own q n true 0 0 m.body) q.methods) (sym many) (methods_converted p.methods h.methods);
        save = subst (λ n. FormedCodeBody own q n false 0 0 q.save) (sym many) (enters false p.save h.save);
        start = subst (λ n. FormedCodeBody own q n false 0 0 q.start) (sym many) (enters false p.start h.start);
        named = named_same (convert_method needs) (λ m. refl) p q refl h.named;
        few =
            let a = groups_many needs needs p.groups in
            let b = methods_many needs p.methods in
            let c = length_map (convert needs []) p.save.segments in
            let d = length_map (convert needs []) p.start.segments in
            let f = h.few in
            omega (arithmetic, a, b, c, d, f);
      }

pub conversion_forms : ConversionForms
conversion_forms own p h = record { code = code_converted own p h.code; paid = groups_paid (needs_of [] p.groups) (needs_of [] p.groups) p.groups h.paid }

pub formed_order : FormedOrder
formed_order own p h = formed_ordered own p h.code
