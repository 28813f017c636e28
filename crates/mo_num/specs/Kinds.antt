-- The ranges of the kinds of number: Motoko language manual, section "Numeric types"; Nat and Int by this profile.
use Rattle.std.specs.Prelude.{ℕ, ◌-◌, ◌^◌, ℤ, pos, neg_ℤ, ◌≤ℤ◌}
use Rattle.mo_num.specs.declared.kind.Kind.{Kind}
use Rattle.mo_num.specs.declared.kind.Kind.TheVariants.{Nat, Int, Nat8, Nat16, Nat32, Nat64, Int8, Int16, Int32, Int64}

abbrev pub least : Kind → ℤ
least Nat = pos 0
least Int = neg_ℤ (pos (2 ^ 63))
least Nat8 = pos 0
least Nat16 = pos 0
least Nat32 = pos 0
least Nat64 = pos 0
least Int8 = neg_ℤ (pos (2 ^ 7))
least Int16 = neg_ℤ (pos (2 ^ 15))
least Int32 = neg_ℤ (pos (2 ^ 31))
least Int64 = neg_ℤ (pos (2 ^ 63))

abbrev pub greatest : Kind → ℤ
greatest Nat = pos (2 ^ 63 - 1)
greatest Int = pos (2 ^ 63 - 1)
greatest Nat8 = pos (2 ^ 8 - 1)
greatest Nat16 = pos (2 ^ 16 - 1)
greatest Nat32 = pos (2 ^ 32 - 1)
greatest Nat64 = pos (2 ^ 64 - 1)
greatest Int8 = pos (2 ^ 7 - 1)
greatest Int16 = pos (2 ^ 15 - 1)
greatest Int32 = pos (2 ^ 31 - 1)
greatest Int64 = pos (2 ^ 63 - 1)

-- The number is a value of the kind.
abbrev pub InRange : Kind → ℤ → Type 0
InRange kind n = (least kind ≤ℤ n) × (n ≤ℤ greatest kind)

-- The kind has a width in bits, so that its numbers may wrap.
abbrev pub IsFixed : Kind → Type 0
IsFixed Nat = ⊥
IsFixed Int = ⊥
IsFixed Nat8 = Unit {0}
IsFixed Nat16 = Unit {0}
IsFixed Nat32 = Unit {0}
IsFixed Nat64 = Unit {0}
IsFixed Int8 = Unit {0}
IsFixed Int16 = Unit {0}
IsFixed Int32 = Unit {0}
IsFixed Int64 = Unit {0}

-- How many values the kind has: 2 to the power of its width in bits.
abbrev pub modulus : Kind → ℕ
modulus Nat = 2 ^ 63
modulus Int = 2 ^ 64
modulus Nat8 = 2 ^ 8
modulus Nat16 = 2 ^ 16
modulus Nat32 = 2 ^ 32
modulus Nat64 = 2 ^ 64
modulus Int8 = 2 ^ 8
modulus Int16 = 2 ^ 16
modulus Int32 = 2 ^ 32
modulus Int64 = 2 ^ 64
