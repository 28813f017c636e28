-- Values and cases: which case is the first that matches, and what its names stand for. The functions in values are numbers here.
use Rattle.std.specs.Prelude.{ℕ, suc, List, [], ◌∷◌, Option, Some, None, true, false, pos, codes}
use Rattle.mo_types.specs.declared.datum.Datum.TheVariants as part
use Rattle.mo_values.specs.Rows.{nat, minus, char, text, null, some, tuple, object}
use Rattle.mo_values.specs.Shapes.{Bytes, Tag, Shape, Made, NoShape, AShape, leaf}
use Rattle.typed_tree.specs.Patterns.{Pat, Wildcard, Bind, Constant, Present?, Tagged, Parts, Fields, Either, matches}
use Rattle.typed_tree.specs.PatternView.{pats}
use Rattle.typed_tree.specs.PatternWeights.{pattern_weight}

-- the number of the case, and the values of its names
pub record Chosen : Type 0 where
  pub number : ℕ
  pub values : List (Shape ℕ)

abbrev pub chosen : ℕ → List (Shape ℕ) → Chosen
chosen n vs = record { number = n; values = vs }

abbrev pub first_of : ℕ → Option (List (Shape ℕ)) → Option Chosen → Option Chosen
first_of n None later = later
first_of n (Some vs) later = Some (chosen n vs)

abbrev pub choose : ℕ → List Pat → Shape ℕ → Option Chosen
choose n [] v = None
choose n (p ∷ ps) v = first_of n (matches p v) (choose (suc n) ps v)

pub record Row : Type 0 where
  pub cases : List Pat
  pub value : Shape ℕ
  pub answer : Option Chosen

abbrev pub row : List Pat → Shape ℕ → ℕ → List (Shape ℕ) → Row
row ps v n vs = record { cases = ps; value = v; answer = Some (chosen n vs) }

abbrev pub none : List Pat → Shape ℕ → Row
none ps v = record { cases = ps; value = v; answer = None }

abbrev pub answers : List Row → List (Option Chosen)
answers [] = []
answers (r ∷ rs) = choose 0 r.cases r.value ∷ answers rs

abbrev pub wanted : List Row → List (Option Chosen)
wanted [] = []
wanted (r ∷ rs) = r.answer ∷ wanted rs

-- ---- literals and values

abbrev pub number : ℕ → Pat
number n = Constant (part.Number (pos n))

abbrev pub null_pattern : Pat
null_pattern = Constant part.Null

abbrev pub is_true : Pat
is_true = Constant (part.Flag true)

abbrev pub is_false : Pat
is_false = Constant (part.Flag false)

abbrev pub letter : ℕ → Pat
letter c = Constant (part.Char c)

abbrev pub string : Bytes → Pat
string t = Constant (part.Text t)

abbrev pub flag_true : Shape ℕ
flag_true = leaf (part.Flag true)

abbrev pub flag_false : Shape ℕ
flag_false = leaf (part.Flag false)

abbrev pub tagged : Bytes → Shape ℕ → Shape ℕ
tagged l v = Made (Tag l) (AShape v NoShape)

abbrev pub unit : Shape ℕ
unit = tuple []

-- ---- rows

-- `case null ..; case (?null) ..; case (??n) ..`
abbrev pub options : List Pat
options = null_pattern ∷ Present? null_pattern ∷ Present? (Present? Bind) ∷ []

-- `case (true, 'x') ..; case (false, 'x') ..; case (true, _) ..; case (_, '\n') ..; case _ ..`
abbrev pub pairs : List Pat
pairs =
    Parts (pats (is_true ∷ letter 120 ∷ [])) ∷ Parts (pats (is_false ∷ letter 120 ∷ [])) ∷ Parts (pats (is_true ∷ Wildcard ∷ []))
    ∷ Parts (pats (Wildcard ∷ letter 10 ∷ [])) ∷ Wildcard ∷ []

-- `case 1 ..; case 1 ..; case _ ..; case 2 ..`
abbrev pub first_wins : List Pat
first_wins = number 1 ∷ number 1 ∷ Wildcard ∷ number 2 ∷ []

-- `case (#sat or #sun) ..; case _ ..`
abbrev pub weekend : List Pat
weekend = Either (Tagged (codes "sat") Wildcard) (Tagged (codes "sun") Wildcard) ∷ Wildcard ∷ []

-- `case ((?0, _) or (null, 0 or 1)) ..; case _ ..`
abbrev pub deep : List Pat
deep = Either (Parts (pats (Present? (number 0) ∷ Wildcard ∷ []))) (Parts (pats (null_pattern ∷ Either (number 0) (number 1) ∷ []))) ∷ Wildcard ∷ []

-- `case 0 ..; case 1 ..`
abbrev pub digits : List Pat
digits = number 0 ∷ number 1 ∷ []

-- `case (#a n) ..; case (#e(x, y)) ..`
abbrev pub payloads : List Pat
payloads = Tagged (codes "a") Bind ∷ Tagged (codes "e") (Parts (pats (Bind ∷ Bind ∷ []))) ∷ []

-- `case {name = "a"; age} ..; case {age; name} ..`
abbrev pub people : List Pat
people =
    Fields (codes "name" ∷ codes "age" ∷ []) (pats (string (codes "a") ∷ Bind ∷ []))
    ∷ Fields (codes "age" ∷ codes "name" ∷ []) (pats (Bind ∷ Bind ∷ [])) ∷ []

abbrev pub person : Bytes → ℕ → Shape ℕ
person name age = object (codes "name" ∷ codes "age" ∷ codes "more" ∷ []) (text name ∷ nat age ∷ null ∷ [])

abbrev pub first_cases : List Row
first_cases =
    row options null 0 []
    ∷ row options (some null) 1 []
    ∷ row options (some (some (nat 5))) 2 (nat 5 ∷ [])
    ∷ row pairs (tuple (flag_true ∷ char 120 ∷ [])) 0 []
    ∷ row pairs (tuple (flag_false ∷ char 120 ∷ [])) 1 []
    ∷ row pairs (tuple (flag_true ∷ char 121 ∷ [])) 2 []
    ∷ row pairs (tuple (flag_false ∷ char 10 ∷ [])) 3 []
    ∷ row pairs (tuple (flag_false ∷ char 121 ∷ [])) 4 []
    ∷ row first_wins (nat 1) 0 []
    ∷ row first_wins (nat 2) 2 []
    ∷ row weekend (tagged (codes "sun") unit) 0 []
    ∷ row weekend (tagged (codes "mon") unit) 1 []
    ∷ row deep (tuple (some (nat 0) ∷ nat 9 ∷ [])) 0 []
    ∷ row deep (tuple (null ∷ nat 1 ∷ [])) 0 []
    ∷ row deep (tuple (null ∷ nat 2 ∷ [])) 1 []
    ∷ row deep (tuple (some (nat 1) ∷ nat 0 ∷ [])) 1 []
    ∷ row digits (nat 0) 0 []
    ∷ row digits (nat 1) 1 []
    -- of which no case matches
    ∷ none digits (nat 2)
    ∷ none digits (minus 1)
    ∷ row payloads (tagged (codes "a") (nat 4)) 0 (nat 4 ∷ [])
    ∷ row payloads (tagged (codes "e") (tuple (nat 5 ∷ nat 6 ∷ []))) 1 (nat 5 ∷ nat 6 ∷ [])
    ∷ none payloads (tagged (codes "d") (text (codes "t")))
    -- the names of a pattern stand in the order in which they are written
    ∷ row people (person (codes "a") 7) 0 (nat 7 ∷ [])
    ∷ row people (person (codes "b") 8) 1 (nat 8 ∷ text (codes "b") ∷ [])
    ∷ none (Parts (pats (Bind ∷ [])) ∷ []) (tuple (nat 1 ∷ nat 2 ∷ []))
    ∷ row (Parts (pats []) ∷ []) unit 0 []
    -- a parameter `?x`, and null for it
    ∷ none (Present? Bind ∷ []) null
    ∷ []

-- ---- weights

abbrev pub weights : List ℕ
weights =
    -- `_`, a name, a number
    pattern_weight Wildcard (nat 5) ∷ pattern_weight Bind (text (codes "abc")) ∷ pattern_weight (number 1) (nat 5)
    -- two nodes
    ∷ pattern_weight (Present? (number 1)) (some (nat 5)) ∷ pattern_weight (Present? (number 1)) null
    -- one node, a text of 2 bytes and one of 3, each a part of its own
    ∷ pattern_weight (string (codes "ab")) (text (codes "abc"))
    -- a node for the pattern and for each of two fields, and the two patterns under them; texts of 1 byte and 1 byte
    ∷ pattern_weight (Fields (codes "name" ∷ codes "age" ∷ []) (pats (string (codes "a") ∷ Bind ∷ []))) (person (codes "b") 8)
    -- a text that is not there is not compared
    ∷ pattern_weight (Tagged (codes "d") (string (codes "abc"))) (tagged (codes "a") (nat 4))
    ∷ []

abbrev pub wanted_weights : List ℕ
wanted_weights = 1 ∷ 1 ∷ 1 ∷ 2 ∷ 2 ∷ 8 ∷ 9 ∷ 2 ∷ []
