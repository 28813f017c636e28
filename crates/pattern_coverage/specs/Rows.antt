-- Types and cases, and what of them is missed.
use Rattle.std.specs.Prelude.{ℕ, zero, suc, List, [], ◌∷◌, Bool, true, false, ℤ, pos, neg_ℤ, codes}
use Rattle.mo_num.specs.declared.kind.Kind.TheVariants as kind
use Rattle.mo_types.specs.declared.datum.Datum.{Datum}
use Rattle.mo_types.specs.declared.datum.Datum.TheVariants as part
use Rattle.mo_types.specs.declared.node.Field.{Field}
use Rattle.mo_types.specs.declared.node.Node.{Node}
use Rattle.mo_types.specs.declared.node.Node.TheVariants as node
use Rattle.mo_values.specs.Shapes.{Bytes}
use Rattle.typed_tree.specs.Patterns.{Pat, Wildcard, Constant, Present?, Tagged, Either}
use Rattle.typed_tree.specs.Patterns as pattern
use Rattle.typed_tree.specs.PatternView.{pats}
use Rattle.pattern_coverage.specs.Cover.{Coverage, Whole, Misses, coverage}
use Rattle.pattern_coverage.specs.Leaves.{leaf_at, is_literal_number}
use Rattle.pattern_coverage.specs.Known.{Known, Knowns, Unknown, Is, IsNot, Holds, Under, NotUnder, Parts, Fields, NoKnown, AKnown}

-- ---- types

-- None, Bool, Blob, Any; `?Bool`, `?None`, `{#a : None; #b : Bool}`, `(Bool, Bool)`, `{x : Bool; y : ?Bool}`, `type R = {r : R}`,
-- `{var x : None}`, `[None]`, `{#c; #d}` with Bool under both, Nat
pub data Sample : Type 0 where
  ANone : Sample
  ABool : Sample
  ABlob : Sample
  AnAny : Sample
  OptBool : Sample
  OptNone : Sample
  OneTag : Sample
  TwoBools : Sample
  Record : Sample
  Itself : Sample
  NoCell : Sample
  NoElements : Sample
  TwoTags : Sample
  ANat : Sample

abbrev pub field : Bytes → Sample → Field Sample
field l t = record { label = l; mutable = false; part = t }

abbrev pub sample_head : Sample → Node Sample
sample_head ANone = node.Bottom
sample_head ABool = node.Bool
sample_head ABlob = node.Blob
sample_head AnAny = node.Any
sample_head OptBool = node.Opt ABool
sample_head OptNone = node.Opt ANone
sample_head OneTag = node.Variant (field (codes "a") ANone ∷ field (codes "b") ABool ∷ [])
sample_head TwoBools = node.Tuple (ABool ∷ ABool ∷ [])
sample_head Record = node.Object (field (codes "x") ABool ∷ field (codes "y") OptBool ∷ [])
sample_head Itself = node.Object (field (codes "r") Itself ∷ [])
sample_head NoCell = node.Object (record { label = codes "x"; mutable = true; part = ANone } ∷ [])
sample_head NoElements = node.Array ANone
sample_head TwoTags = node.Variant (field (codes "c") ABool ∷ field (codes "d") ABool ∷ [])
sample_head ANat = node.Number kind.Nat

-- those that have values
abbrev pub sample_has : Sample → Bool
sample_has ANone = false
sample_has Itself = false
sample_has NoCell = false
sample_has _ = true

-- ---- cases

abbrev pub flag : Bool → Datum
flag b = part.Flag b

abbrev pub number : ℕ → Datum
number n = part.Number (pos n)

abbrev pub if_true : Pat
if_true = Constant (part.Flag true)

abbrev pub if_false : Pat
if_false = Constant (part.Flag false)

abbrev pub if_null : Pat
if_null = Constant part.Null

abbrev pub pair : Pat → Pat → Pat
pair p q = pattern.Parts (pats (p ∷ q ∷ []))

abbrev pub with_x : Pat → Pat
with_x p = pattern.Fields (codes "x" ∷ []) (pats (p ∷ []))

abbrev pub with_y_x : Pat → Pat → Pat
with_y_x p q = pattern.Fields (codes "y" ∷ codes "x" ∷ []) (pats (p ∷ q ∷ []))

-- the numbers below n
abbrev pub numbers : ℕ → List Pat
numbers zero = []
numbers (suc n) = Constant (number n) ∷ numbers n

pub record Row : Type 0 where
  pub on : Sample
  pub cases : List Pat
  pub answer : Coverage

abbrev pub row : Sample → List Pat → Coverage → Row
row t ps c = record { on = t; cases = ps; answer = c }

abbrev pub two : Known → Known → Knowns
two j k = AKnown j (AKnown k NoKnown)

abbrev pub fields : Known → Known → Known
fields j k = Fields (codes "x" ∷ codes "y" ∷ []) (two j k)

abbrev pub rows : List Row
rows =
    row ABool [] (Misses Unknown)
    ∷ row ABool (if_true ∷ []) (Misses (IsNot (flag true ∷ [])))
    ∷ row ABool (if_true ∷ if_false ∷ []) Whole
    ∷ row ABool (Either if_false if_true ∷ []) Whole
    ∷ row ANat (numbers 2) (Misses (IsNot (number 0 ∷ number 1 ∷ [])))
    ∷ row ABlob (Constant (part.Blob (codes "a")) ∷ []) (Misses (IsNot (part.Blob (codes "a") ∷ [])))
    ∷ row AnAny [] (Misses Unknown)
    ∷ row AnAny (Wildcard ∷ []) Whole
    ∷ row OptBool (if_null ∷ []) (Misses (Holds Unknown))
    ∷ row OptBool (Present? if_true ∷ if_null ∷ []) (Misses (Holds (IsNot (flag true ∷ []))))
    ∷ row OptBool (Present? Wildcard ∷ []) (Misses (Is part.Null))
    ∷ row OptBool (if_null ∷ Present? if_true ∷ Present? if_false ∷ []) Whole
    -- types without values, and what holds them
    ∷ row ANone [] Whole
    ∷ row OptNone (if_null ∷ []) Whole
    ∷ row OneTag (Tagged (codes "b") Wildcard ∷ []) Whole
    ∷ row OneTag (Tagged (codes "b") if_true ∷ []) (Misses (Under (codes "b") (IsNot (flag true ∷ []))))
    ∷ row TwoTags (Tagged (codes "d") Wildcard ∷ []) (Misses (NotUnder (codes "d" ∷ [])))
    ∷ row TwoTags (Tagged (codes "d") Wildcard ∷ Tagged (codes "c") if_false ∷ []) (Misses (Under (codes "c") (IsNot (flag false ∷ []))))
    ∷ row Itself [] Whole
    ∷ row NoCell [] Whole
    ∷ row NoElements [] (Misses Unknown)
    -- one column after another
    ∷ row TwoBools (pair if_true Wildcard ∷ pair Wildcard if_false ∷ []) (Misses (Parts (two (IsNot (flag true ∷ [])) (IsNot (flag false ∷ [])))))
    ∷ row TwoBools (pair if_true if_true ∷ pair if_false Wildcard ∷ pair Wildcard if_false ∷ []) Whole
    ∷ row Record (with_x if_true ∷ []) (Misses (fields (IsNot (flag true ∷ [])) Unknown))
    ∷ row Record (with_y_x if_null if_true ∷ with_x if_false ∷ []) (Misses (fields (IsNot (flag false ∷ [])) (Holds Unknown)))
    ∷ row Record (with_y_x Wildcard if_true ∷ with_x if_false ∷ []) Whole
    ∷ []

abbrev pub answers : List Row → List Coverage
answers [] = []
answers (r ∷ rs) = coverage sample_head sample_has r.cases r.on ∷ answers rs

abbrev pub wanted : List Row → List Coverage
wanted [] = []
wanted (r ∷ rs) = r.answer ∷ wanted rs

-- ---- literals: the first, the last, and that there is no further one

pub record Edge : Type 0 where
  pub first : Datum
  pub last : Datum
  pub is_last : Bool
  pub further : Bool

abbrev pub edge : Node Sample → ℕ → Edge
edge x n = record { first = leaf_at x 0; last = leaf_at x n; is_last = is_literal_number x n; further = is_literal_number x (suc n) }

abbrev pub range : ℤ → ℤ → Edge
range a b = record { first = part.Number a; last = part.Number b; is_last = true; further = false }

abbrev pub edges : List Edge
edges =
    edge (node.Number kind.Nat8) 255 ∷ edge (node.Number kind.Nat16) 65535 ∷ edge (node.Number kind.Nat32) 4294967295
    ∷ edge (node.Number kind.Nat64) 18446744073709551615 ∷ edge (node.Number kind.Nat) 9223372036854775807
    ∷ edge (node.Number kind.Int8) 255 ∷ edge (node.Number kind.Int16) 65535 ∷ edge (node.Number kind.Int32) 4294967295
    ∷ edge (node.Number kind.Int64) 18446744073709551615 ∷ edge (node.Number kind.Int) 18446744073709551615
    ∷ edge node.Bool 1 ∷ edge node.Null 0 ∷ edge node.Char 1112063
    -- behind the last character before the surrogates
    ∷ record { first = leaf_at {A = Sample} node.Char 55295; last = leaf_at {A = Sample} node.Char 55296; is_last = true; further = true } ∷ []

abbrev pub wanted_edges : List Edge
wanted_edges =
    range (pos 0) (pos 255) ∷ range (pos 0) (pos 65535) ∷ range (pos 0) (pos 4294967295)
    ∷ range (pos 0) (pos 18446744073709551615) ∷ range (pos 0) (pos 9223372036854775807)
    ∷ range (neg_ℤ (pos 128)) (pos 127) ∷ range (neg_ℤ (pos 32768)) (pos 32767) ∷ range (neg_ℤ (pos 2147483648)) (pos 2147483647)
    ∷ range (neg_ℤ (pos 9223372036854775808)) (pos 9223372036854775807) ∷ range (neg_ℤ (pos 9223372036854775808)) (pos 9223372036854775807)
    ∷ record { first = part.Flag true; last = part.Flag false; is_last = true; further = false }
    ∷ record { first = part.Null; last = part.Null; is_last = true; further = false }
    ∷ record { first = part.Char 0; last = part.Char 1114111; is_last = true; further = false }
    ∷ record { first = part.Char 55295; last = part.Char 57344; is_last = true; further = true } ∷ []
