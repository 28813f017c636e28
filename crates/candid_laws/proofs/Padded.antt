-- The shortest spelling of a number is one that may be padded.
use Rattle.std.proofs.Common.{ℕ, ◌-◌, ◌≤◌, List, [], ◌∷◌, length, refl, arith, ℤ, pos, negsuc}
use Rattle.mo_num.specs.LebRead.{most}
use Rattle.mo_num.proofs.RoundTrip.{leb_back, sleb_back}
use Rattle.mo_types.specs.declared.datum.Datum.{Datum}
use Rattle.mo_types.specs.declared.datum.Datum.TheVariants as part
use Rattle.mo_types.specs.declared.wire.Plain.{Plain}
use Rattle.mo_types.specs.declared.wire.Plain.TheVariants as plain
use Rattle.mo_types.specs.declared.wire.Wire.{Wire}
use Rattle.mo_types.specs.declared.wire.Wire.TheVariants.{Simple, Opt, Vec, Record, Variant, Func, Service}
use Rattle.mo_types.specs.Spelling.{shortest, padded, IsString, IsPrincipal, IsPlainPart, IsWirePart, wire_inside, Spell}
use Rattle.mo_types.specs.Values.{Values, Nil, Value}

pub short_unsigned : (bits : ℕ) (bytes : List ℕ) (n : ℕ) → 1 ≤ bits → shortest.unsigned bits bytes n → padded.unsigned bits bytes n
short_unsigned bits bytes n some h =
    let r = (leb_back bits n [] bytes [] some h.1 (bytes, refl, h.0)).0 in
    let e : length bytes - 0 ≤ most bits = r.allowed in
    (h.0.spells, omega (arith, e), h.1)

pub short_signed : (bits : ℕ) (bytes : List ℕ) (n : ℤ) → 1 ≤ bits → shortest.signed bits bytes n → padded.signed bits bytes n
short_signed bits bytes n some h =
    let r = (sleb_back bits n [] bytes [] some h.1 (bytes, refl, h.0)).0 in
    let e : length bytes - 0 ≤ most bits = r.allowed in
    (h.0.spells, omega (arith, e), h.1)

pub short_string : (text bytes : List ℕ) → IsString shortest text bytes → IsString padded text bytes
short_string text bytes h = record { front = h.front; back = h.back; whole = h.whole; first = short_unsigned 32 h.front (length text) (omega arith) h.first; second = h.second }

short_principal : (p bytes : List ℕ) → IsPrincipal shortest p bytes → IsPrincipal padded p bytes
short_principal p bytes h = (h.0, record { front = h.1.front; back = h.1.back; whole = h.1.whole; first = h.1.first; second = short_string p h.1.back h.1.second })

short_plain : (s : Plain) (p : Datum) (bytes : List ℕ) → IsPlainPart shortest s p bytes → IsPlainPart padded s p bytes
short_plain plain.Null part.Null bytes h = h
short_plain plain.Reserved part.Null bytes h = h
short_plain plain.Bool (part.Flag b) bytes h = h
short_plain plain.Nat (part.Number (pos n)) bytes h = (h.0, short_unsigned 70 bytes n (omega arith) h.1)
short_plain plain.Nat (part.Number (negsuc n)) bytes h = absurd h
short_plain plain.Int (part.Number n) bytes h = (h.0, short_signed 70 bytes n (omega arith) h.1)
short_plain plain.Nat8 (part.Number n) bytes h = h
short_plain plain.Nat16 (part.Number n) bytes h = h
short_plain plain.Nat32 (part.Number n) bytes h = h
short_plain plain.Nat64 (part.Number n) bytes h = h
short_plain plain.Int8 (part.Number n) bytes h = h
short_plain plain.Int16 (part.Number n) bytes h = h
short_plain plain.Int32 (part.Number n) bytes h = h
short_plain plain.Int64 (part.Number n) bytes h = h
short_plain plain.Text (part.Text t) bytes h = (h.0, short_string t bytes h.1)
short_plain plain.Principal (part.Principal p) bytes h = short_principal p bytes h
short_plain s p bytes h = absurd h

module _ {B : Type 0} (P Q : ℕ → B → Type 0) where
  -- where what the one allows the other does
  abbrev pub Allows : Wire B → Datum → Type 0
  Allows (Vec b) (part.Many n) = P n b → Q n b
  Allows _ _ = Unit {0}

  pub short_part : (w : Wire B) (p : Datum) (bytes : List ℕ) → Allows w p → IsWirePart shortest P w p bytes → IsWirePart padded Q w p bytes
  short_part (Simple s) p bytes a h = short_plain s p bytes h
  short_part (Opt b) part.Null bytes a h = h
  short_part (Opt b) part.Present bytes a h = h
  short_part (Opt b) p bytes a h = absurd h
  short_part (Vec b) (part.Many n) bytes a h = (a h.0, short_unsigned 32 bytes n (omega arith) h.1)
  short_part (Vec b) p bytes a h = absurd h
  short_part (Record es) (part.Record n) bytes a h = h
  short_part (Record es) p bytes a h = absurd h
  short_part (Variant es) (part.Tag i) bytes a h = (h.0, short_unsigned 32 bytes i (omega arith) h.1)
  short_part (Variant es) p bytes a h = absurd h
  short_part (Func ps rs m) (part.Method p name) bytes a h =
      let t = h.1 in
      let u = t.second in
      (h.0, record { front = t.front; back = t.back; whole = t.whole; first = t.first; second = record { front = u.front; back = u.back; whole = u.whole; first = short_principal p u.front u.first; second = short_string name u.back u.second } })
  short_part (Func ps rs m) p bytes a h = absurd h
  short_part (Service ms) (part.Actor p) bytes a h = short_principal p bytes h
  short_part (Service ms) p bytes a h = absurd h

  module _ (head : B → Wire B) where
    -- at each part of Candid values of these types
    abbrev pub AllAllow : List B → Values → Type 0
    AllAllow (t ∷ ts) (Value p inner others) = Allows (head t) p × AllAllow (wire_inside (head t) p) inner × AllAllow ts others
    AllAllow _ _ = Unit {0}

    pub short_spell : (ts : List B) (v : Values) (bytes : List ℕ) → AllAllow ts v → Spell shortest P head ts v bytes → Spell padded Q head ts v bytes
    short_spell [] Nil bytes a h = h
    short_spell (t ∷ ts) Nil bytes a h = absurd h
    short_spell [] (Value p inner others) bytes a h = absurd h
    short_spell (t ∷ ts) (Value p inner others) bytes a h =
        let k = h.second in
        record {
          front = h.front;
          back = h.back;
          whole = h.whole;
          first = short_part (head t) p h.front a.0 h.first;
          second = record {
            front = k.front;
            back = k.back;
            whole = k.whole;
            first = short_spell (wire_inside (head t) p) inner k.front a.1 k.first;
            second = short_spell ts others k.back a.2 k.second;
          };
        }
