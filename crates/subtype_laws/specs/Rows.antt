-- Questions of subtyping, with the answers that are wanted (Motoko language manual, section "Subtyping").
use Rattle.std.specs.Prelude.{ℕ, zero, suc, ◌<◌, List, [], ◌∷◌, map, Option, Some, None, if◌then◌else◌}
use Rattle.mo_types.specs.Sub.{Each, Sub, IsSubtype}
use Rattle.subtype_laws.specs.Decided.{is_below}
use Rattle.subtype_laws.specs.Samples.{Sample, ANat, AnInt, AText, ANone, AnAny, ANull, OptNat, OptInt, Nats, VarNats, VarInts, AUnit, TwoNats, TwoInts, NoFields, FieldNat, CellNat, CellInt, TagInt, V, Wider, NatToNat, NatToInt, IntToNat, OfIntToNat, OfNatToNat, QueryNat, SharedNat, OneMethod, TwoMethods, AsyncNat, AsyncInt, A, L, M, N, T, C, D, Short, sample_head}

pub record Row : Type 0 where
  pub low : Sample
  pub high : Sample
  -- the least depth at which they are no subtypes; none where they are
  pub fails : Option ℕ

-- they are subtypes, or fail at this depth and at no lesser one
abbrev pub IsAnswer : Sample → Sample → Option ℕ → Type 0
IsAnswer low high None = IsSubtype sample_head low high
IsAnswer low high (Some n) = (Sub sample_head n low high → ⊥) × ((m : ℕ) → m < n → Sub sample_head m low high)

abbrev pub AreAnswered : List Row → Type 0
AreAnswered rows = Each (λ r. IsAnswer r.low r.high r.fails) rows

abbrev no : Sample → Sample → ℕ → Row
no low high depth = record { low = low; high = high; fails = Some depth }

abbrev yes : Sample → Sample → Row
yes low high = record { low = low; high = high; fails = None }

-- the first depth, from `from` on, of `many` depths, at which they are no subtypes
abbrev pub first_failure : ℕ → ℕ → Sample → Sample → Option ℕ
first_failure zero from low high = None
first_failure (suc many) from low high = if is_below sample_head from low high then first_failure many (suc from) low high else Some from

-- what is computed to depth 12
abbrev pub answers : List Row → List (Option ℕ)
answers rows = map (λ r. first_failure 13 0 r.low r.high) rows

abbrev pub wanted : List Row → List (Option ℕ)
wanted rows = map (λ r. r.fails) rows

-- types of other forms, results and parameters the wrong way, and a list that ends in a text; another implementation
-- answers these with the same depths
abbrev pub refused : List Row
refused =
    no AnInt ANat 1 ∷
    no ANat AText 1 ∷
    no AnAny ANone 1 ∷
    no OptNat ANull 1 ∷
    no ANat OptNat 1 ∷
    no OptInt OptNat 2 ∷
    no VarNats Nats 1 ∷
    no AUnit NoFields 1 ∷
    no CellNat FieldNat 1 ∷
    no TagInt V 2 ∷
    no NatToNat IntToNat 2 ∷
    no OfIntToNat OfNatToNat 3 ∷
    no QueryNat SharedNat 1 ∷
    no A OptNat 2 ∷
    no C D 1 ∷
    no Short L 6 ∷
    []

-- `var` one way, fields, methods, tags and parts that are missing, results and arrays the wrong way
abbrev pub unequal : List Row
unequal =
    no CellNat CellInt 2 ∷
    no CellInt CellNat 2 ∷
    no FieldNat CellNat 1 ∷
    no NoFields FieldNat 1 ∷
    no VarNats VarInts 2 ∷
    no VarInts VarNats 2 ∷
    no OneMethod TwoMethods 1 ∷
    no Wider V 1 ∷
    no TwoInts TwoNats 2 ∷
    no TwoNats AUnit 1 ∷
    no AsyncInt AsyncNat 2 ∷
    no AnAny AnInt 1 ∷
    []

-- types that are subtypes, by the other implementation too
abbrev pub subtypes : List Row
subtypes =
    yes ANat AnInt ∷
    yes ANone ANat ∷
    yes ANull OptNat ∷
    yes OptNat OptInt ∷
    yes V Wider ∷
    yes NatToNat NatToInt ∷
    yes N L ∷
    yes L M ∷
    yes T T ∷
    yes ANull L ∷
    []
