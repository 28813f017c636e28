-- The bytes of values are those of the definition.
use Rattle.std.proofs.Common.{◌≡◌, ℕ, ◌^◌, ◌≤◌, Bool, List, [], ◌∷◌, length, Decides, arith, ℤ, pos, negsuc}
use Rattle.std.specs.Prelude.{nat_lt, nat_eq, true}
use Rattle.std.specs.Str.{is_utf8}
use Rattle.std.specs.Cmp.{unsigned_Decides}
use Rattle.std.proofs.lemmas.Bool.Decides.{Decides-ltb}
use Rattle.mo_num.specs.declared.kind.Kind.{Kind}
use Rattle.mo_num.specs.declared.kind.Kind.TheVariants as kind
use Rattle.mo_num.specs.Kinds.{least, greatest}
use Rattle.exact_reading.specs.Reading.{is_between}
use Rattle.mo_types.specs.declared.datum.Datum.{Datum}
use Rattle.mo_types.specs.declared.datum.Datum.TheVariants as part
use Rattle.mo_types.specs.declared.wire.Plain.{Plain}
use Rattle.mo_types.specs.declared.wire.Plain.TheVariants as plain
use Rattle.mo_types.specs.declared.wire.Wire.{Wire}
use Rattle.mo_types.specs.declared.wire.Wire.TheVariants.{Simple, Opt, Vec, Record, Variant, Func, Service}
use Rattle.mo_types.specs.Spelling.{shortest, bit, as_bytes, wire_inside, IsNat, IsFixed, IsPrincipal, IsPlainPart, IsWirePart, Spell, AnyCount}
use Rattle.mo_types.specs.Values.{Values, Nil, Value, is_method_name}
use Rattle.mo_coding.specs.Values.{natural, fixed, principal, plain_part, wire_part, values_piece}
use Rattle.mo_coding.proofs.Pieces.{Makes, makes_bytes, makes_none, makes_join, makes_given, between_decides, makes_unsigned, makes_signed, makes_string}

true_decides : (b : Bool) → Decides b (b ≡ true)
true_decides b = (λ e. e, λ e. e)

makes_natural : (n : ℤ) → Makes (IsNat shortest n) (natural n)
makes_natural (pos n) = makes_given (nat_lt n (2 ^ 63)) (Decides-ltb n (2 ^ 63)) (makes_unsigned 70 n)
makes_natural (negsuc n) = makes_none (IsNat shortest (negsuc n)) (λ b h. h)

makes_fixed : (k : Kind) (w : ℕ) (n : ℤ) → Makes (IsFixed shortest k w n) (fixed k w n)
makes_fixed k w n = makes_given (is_between (least k) (greatest k) n) (between_decides (least k) (greatest k) n) (makes_bytes (as_bytes w n))

few_decides : (n : ℕ) → Decides (nat_lt n 30) (n ≤ 29)
few_decides n = let d = Decides-ltb n 30 in (λ e. let h = d.0 e in omega (arith, h), λ h. d.1 (omega (arith, h)))

makes_principal : (p : List ℕ) → Makes (IsPrincipal shortest p) (principal p)
makes_principal p = makes_given (nat_lt (length p) 30) (few_decides (length p)) (makes_join (makes_bytes (1 ∷ [])) (makes_string p))

makes_plain : (s : Plain) (p : Datum) → Makes (IsPlainPart shortest s p) (plain_part s p)
makes_plain plain.Null part.Null = makes_bytes []
makes_plain plain.Reserved part.Null = makes_bytes []
makes_plain plain.Bool (part.Flag b) = makes_bytes (bit b ∷ [])
makes_plain plain.Nat (part.Number n) = makes_natural n
makes_plain plain.Int (part.Number n) = makes_given (is_between (least kind.Int) (greatest kind.Int) n) (between_decides (least kind.Int) (greatest kind.Int) n) (makes_signed 70 n)
makes_plain plain.Nat8 (part.Number n) = makes_fixed kind.Nat8 1 n
makes_plain plain.Nat16 (part.Number n) = makes_fixed kind.Nat16 2 n
makes_plain plain.Nat32 (part.Number n) = makes_fixed kind.Nat32 4 n
makes_plain plain.Nat64 (part.Number n) = makes_fixed kind.Nat64 8 n
makes_plain plain.Int8 (part.Number n) = makes_fixed kind.Int8 1 n
makes_plain plain.Int16 (part.Number n) = makes_fixed kind.Int16 2 n
makes_plain plain.Int32 (part.Number n) = makes_fixed kind.Int32 4 n
makes_plain plain.Int64 (part.Number n) = makes_fixed kind.Int64 8 n
makes_plain plain.Text (part.Text t) = makes_given (is_utf8 t) (true_decides (is_utf8 t)) (makes_string t)
makes_plain plain.Principal (part.Principal p) = makes_principal p
makes_plain s p = makes_none _ (λ b h. h)

module _ {B : Type 0} where
  makes_part : (w : Wire B) (p : Datum) → Makes (IsWirePart shortest AnyCount w p) (wire_part w p)
  makes_part (Simple s) p = makes_plain s p
  makes_part (Opt b) part.Null = makes_bytes (0 ∷ [])
  makes_part (Opt b) part.Present = makes_bytes (1 ∷ [])
  makes_part (Vec b) (part.Many n) = let m = makes_unsigned 32 n in record { sound = λ c e. (tt, m.sound c e); only = λ c h. m.only c h.1 }
  makes_part (Record es) (part.Record n) = makes_given (nat_eq n (length es)) (unsigned_Decides n (length es)) (makes_bytes [])
  makes_part (Variant es) (part.Tag i) = makes_given (nat_lt i (length es)) (Decides-ltb i (length es)) (makes_unsigned 32 i)
  makes_part (Func ps rs m) (part.Method p name) = makes_given (is_method_name name) (true_decides (is_method_name name)) (makes_join (makes_bytes (1 ∷ [])) (makes_join (makes_principal p) (makes_string name)))
  makes_part (Service ms) (part.Actor p) = makes_principal p
  makes_part w p = makes_none _ (λ b h. h)

  pub makes_values : (head : B → Wire B) (types : List B) (values : Values) → Makes (Spell shortest AnyCount head types values) (values_piece head types values)
  makes_values head [] Nil = makes_bytes []
  makes_values head [] (Value p inner others) = makes_none _ (λ b h. h)
  makes_values head (t ∷ ts) Nil = makes_none _ (λ b h. h)
  makes_values head (t ∷ ts) (Value p inner others) = makes_join (makes_part (head t) p) (makes_join (makes_values head (wire_inside (head t) p) inner) (makes_values head ts others))
