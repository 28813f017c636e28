-- The split bodies of a formed program are formed.
use Rattle.std.proofs.Common.{◌≡◌, ℕ, zero, suc, ◌+◌, ◌≤◌, inr, refl, ◌∙◌, subst, List, [], ◌∷◌, ◌++◌, length, map, Some, None, Bool, true, arith as arithmetic}
use Rattle.std.specs.Prelude.{max, slice_set}
use Rattle.core_ir.specs.declared.code.Operand.{Operand}
use Rattle.core_ir.specs.Expressions as core
use Rattle.core_ir.specs.Expressions.{Exp, Do, NoExp, AnExp}
use Rattle.core_ir.specs.FormedExpressions as core_form
use Rattle.core_ir.specs.FormedExpressions.{arguments, depth, points, width}
use Rattle.core_ir.specs.FormedCode as code_form
use Rattle.core_ir.specs.FormedCode.{most_operands, most_of, nesting}
use Rattle.core_ir.specs.Code.{Return}
use Rattle.core_laws.specs.Slots.{operands, first, slots_from, members_from, captured_from}
use Rattle.core_laws.specs.Split.{Segments, Emitted, code_or_stop, split_all, split_body}
use Rattle.core_laws.proofs.FormedPieces.{Is, AllOk, Kept, Segs, Opened, Never, length_operands, append_formed, captured_formed, first_formed, members_formed, operands_formed, slots_formed, set_formed, all_segments}
use Rattle.core_laws.proofs.FormedSplits.{all_formed}
use Rattle.core_laws.proofs.SegmentCounts.{all_count, length_set, length_stopped}
use Rattle.core_laws.proofs.SmallCode as small

length_more : (h m : ℕ) (xs : List Operand) → length (slots_from h m ++ xs) ≡ m + length xs
length_more h zero xs = omega arithmetic
length_more h (suc m) xs = let r = length_more (suc h) m xs in omega (arithmetic, r)

length_members : (m n : ℕ) (xs : List Operand) → length (members_from m n ++ xs) ≡ n + length xs
length_members m zero xs = omega arithmetic
length_members m (suc n) xs = let r = length_members (suc m) n xs in omega (arithmetic, r)

length_captured : (x n : ℕ) → length (captured_from x n) ≡ n
length_captured x zero = refl
length_captured x (suc n) = let r = length_captured (suc x) n in omega (arithmetic, r)

-- the most of segments that are small
module _ (most most_nested : ℕ) (two : 2 ≤ most) where
  operands_most : (s : Segments) → small.Segs most most_nested two s → most_of most_operands (map code_or_stop s) ≤ most
  operands_most [] h = omega arithmetic
  operands_most (None ∷ s) h = let r = operands_most s (h.1) in omega (arithmetic, r)
  operands_most (Some c ∷ s) h = let k = h.0 in let a = k.1 in let r = operands_most s (h.1) in omega (arithmetic, a, r)

  nesting_most : (s : Segments) → small.Segs most most_nested two s → most_of nesting (map code_or_stop s) ≤ most_nested
  nesting_most [] h = omega arithmetic
  nesting_most (None ∷ s) h = let r = nesting_most s (h.1) in omega (arithmetic, r)
  nesting_most (Some c ∷ s) h = let k = h.0 in let a = k.0 in let r = nesting_most s (h.1) in omega (arithmetic, a, r)

module _ (sizes sees : ℕ → ℕ) (globals bound : ℕ) (shared : Bool) (size seen : ℕ) (f : core.Body) (h : core_form.FormedBody sizes sees globals bound shared size seen f) where
  abbrev e : Exp
  e = f.expression

  abbrev names : List Operand
  names = slots_from 0 f.parameters ++ (members_from 0 size ++ captured_from 0 seen)

  abbrev read : List Operand
  read = operands names (AnExp e NoExp) f.parameters

  -- the code of its value, which it returns
  abbrev result : Emitted
  result = split_all sizes (AnExp e NoExp) f.parameters names [] (Return (first read)) (None ∷ [])

  abbrev final : Segments
  final = slice_set result.segments 0 (Some result.code)

  abbrev total : ℕ
  total = length (map code_or_stop final)

  abbrev slots : ℕ
  slots = suc (f.parameters + width sizes e)

  total_is : total ≡ length result.segments
  total_is = length_stopped final ∙ length_set result.segments 0 (Some result.code)

  pub total_points : total ≡ 1 + points e
  total_points = let a = all_count sizes (AnExp e NoExp) f.parameters names [] (Return (first read)) (None ∷ []) in let b = total_is in omega (arithmetic, a, b)

  abbrev Ok : List Operand → Type 0
  Ok xs = AllOk sizes sees globals bound shared slots total size seen xs

  names_ok : Ok names
  names_ok =
      append_formed sizes sees globals bound shared slots total size seen (slots_from 0 f.parameters) (members_from 0 size ++ captured_from 0 seen)
      (slots_formed sizes sees globals bound shared slots total size seen 0 f.parameters (omega arithmetic))
      (append_formed sizes sees globals bound shared slots total size seen (members_from 0 size) (captured_from 0 seen)
      (members_formed sizes sees globals bound shared slots total size seen 0 size (omega arithmetic))
      (captured_formed sizes sees globals bound shared slots total size seen 0 seen (omega arithmetic)))

  names_count : length names ≡ f.parameters + (size + seen)
  names_count = let a = length_more 0 f.parameters (members_from 0 size ++ captured_from 0 seen) in let b = length_members 0 size (captured_from 0 seen) in let c = length_captured 0 seen in omega (arithmetic, a, b, c)

  abbrev Open : ℕ → Type 0
  Open = Opened sizes sees globals bound shared slots total size seen true (Never sizes sees globals bound shared slots total size seen) 0

  abbrev S : Segments → Type 0
  S s = Segs sizes sees globals bound shared slots total size seen Open s

  begins : S (None ∷ [])
  begins zero o i = subst (λ o. Kept sizes sees globals bound shared slots total size seen Open 0 o) (let z : None ≡ o = cc in z) (inr refl)
  begins (suc j) o i = absurd (let z : None ≡ Some o = i in cc)

  read_ok : Ok read
  read_ok = operands_formed sizes sees globals bound shared slots total size seen names (f.parameters + (size + seen)) 0 (AnExp e NoExp) f.parameters (h.names, tt) names_ok (omega arithmetic)

  returns : Is sizes sees globals bound shared slots total size seen 0 (Return (first read))
  returns = first_formed sizes sees globals bound shared slots total size seen read read_ok (let a = length_operands names (AnExp e NoExp) f.parameters in omega (arithmetic, a))

  made : Is sizes sees globals bound shared slots total size seen 0 result.code × S result.segments
  made =
      all_formed sizes sees globals bound shared slots total size seen (AnExp e NoExp) Open (f.parameters + (size + seen)) 0 f.parameters names [] (Return (first read)) (None ∷ [])
      (h.names, tt) names_count refl (λ a. refl) (omega arithmetic) names_ok tt returns begins (let a = total_is in omega (arithmetic, a))

  segments_formed : code_form.FormedSegments sizes sees globals bound shared slots total size seen (map code_or_stop final)
  segments_formed =
      all_segments sizes sees globals bound shared slots total size seen final
      (set_formed sizes sees globals bound shared slots total size seen (Never sizes sees globals bound shared slots total size seen) result.segments 0 result.code (made.1) (made.0))

  -- what it takes of a frame

  abbrev most : ℕ
  most = max 2 (arguments e)

  two : 2 ≤ most
  two = omega arithmetic

  abbrev Little : Segments → Type 0
  Little s = small.Segs most (depth e) two s

  small_made : small.Small most (depth e) two (depth e) result.code × Little result.segments
  small_made =
      small.all_small most (depth e) two sizes (AnExp e NoExp) (depth e) f.parameters names [] (Return (first read)) (None ∷ [])
      (omega arithmetic) (omega arithmetic) (omega arithmetic) (omega arithmetic, omega (arithmetic, two)) (tt, tt)

  small_final : Little final
  small_final = small.set most (depth e) two (depth e) result.segments 0 result.code (omega arithmetic) (small_made.1) (small_made.0)

  pub body_formed : code_form.FormedBody sizes sees globals bound shared size seen (split_body sizes size seen f)
  body_formed = record {
    begins = (let a = total_points in omega (arithmetic, a));
    parameters = omega arithmetic;
    segments = segments_formed;
    frame = (let a = operands_most most (depth e) two final small_final in let b = nesting_most most (depth e) two final small_final in let c = h.frame in omega (arithmetic, a, b, c));
  }
