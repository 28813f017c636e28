-- Each part of a source, where the parts before it were read.
use Rattle.std.proofs.Common.{◌≡◌, ◌≢◌, ℕ, List, [], ◌∷◌, ◌++◌, length, Bool, true, false, ◌==◌, refl, ap, sym, ◌∙◌, subst, arith, IsTrue, codes}
use Rattle.std.specs.Str.Parse.{digits_value}
use Rattle.std.proofs.lemmas.Bool.Decides.{nat_tests}
use Rattle.query_source.specs.declared.query.Method.{Method}
use Rattle.query_source.specs.Tokens.{AreAll, Next, Reads, IsText, is_word_byte}
use Rattle.query_source.specs.Words.{IsName, IsNumeral}
use Rattle.query_source.specs.Source.{before_name, before_number}
use Rattle.query_source.specs.Reading.{after_blanks, word_of, after_word, BeginsNumber, BeginsMethod}
use Rattle.query_source.proofs.Tokens.{reads_join, reads_split}
use Rattle.query_source.proofs.Reading.{next_same, word_next, next_word, letters_word, digits_word, reads_same, blanks_left, blanks_only}

-- the last brace
empty_of : (a : List ℕ) → (length a == 0) ≡ true → a ≡ []
empty_of [] h = refl
empty_of (x ∷ xs) h = absurd (grind (arith, nat_tests))

closes_when : (s rest a : List ℕ) (b : Bool) → a ≡ after_blanks rest → b ≡ (length a == 0) → Next (codes "}") s rest → IsTrue b → IsText (codes "}" ∷ []) s
closes_when s rest a b a_is b_is n h = (rest, (rest, n, refl), blanks_only rest (sym a_is ∙ empty_of a (sym b_is ∙ h)))

closes_only : (s rest a : List ℕ) (b : Bool) → a ≡ after_blanks rest → b ≡ (length a == 0) → Next (codes "}") s rest → IsText (codes "}" ∷ []) s → IsTrue b
closes_only s rest a b a_is b_is n h =
    let same : rest ≡ h.1.0 = next_same (codes "}") s rest h.1.0 refl n h.1.1 in
    let empty : a ≡ [] = a_is ∙ ap after_blanks (same ∙ h.1.2) ∙ blanks_left h.0 h.2 in
    b_is ∙ ap (λ x. length x == 0) empty

pub closes_some : (s rest a : List ℕ) (b : Bool) → a ≡ after_blanks rest → b ≡ (length a == 0) → Next (codes "}") s rest → (IsTrue b → IsText (codes "}" ∷ []) s) × (IsText (codes "}" ∷ []) s → IsTrue b)
closes_some s rest a b a_is b_is n = (closes_when s rest a b a_is b_is n, closes_only s rest a b a_is b_is n)

pub closes_none : (s : List ℕ) → ((rest : List ℕ) → Next (codes "}") s rest → ⊥) → (IsTrue false → IsText (codes "}" ∷ []) s) × (IsText (codes "}" ∷ []) s → IsTrue false)
closes_none s absent = (λ h. absurd (cc), λ h. absurd (absent h.1.0 h.1.1))

-- the name that was read
pub name_there : (s u r : List ℕ) → u ≡ word_of (after_blanks s) → r ≡ after_word (after_blanks s) → (name rest : List ℕ) → IsName name → Next name s rest → (name ≡ u) × (rest ≡ r)
name_there s u r u_is r_is name rest is_name n = next_word s name r rest u u_is r_is is_name.some (letters_word name is_name.letters) n

pub no_name : (s u r : List ℕ) → u ≡ word_of (after_blanks s) → r ≡ after_word (after_blanks s) → (IsName u → ⊥) → (name rest : List ℕ) → IsName name → Next name s rest → ⊥
no_name s u r u_is r_is absent name rest is_name n = absent (subst IsName (name_there s u r u_is r_is name rest is_name n).0 is_name)

-- the number that was read
pub no_number : (s u r : List ℕ) → u ≡ word_of (after_blanks s) → r ≡ after_word (after_blanks s) → ((number : ℕ) → IsNumeral u number → ⊥) → (number : ℕ) (rest : List ℕ) → BeginsNumber number s rest → ⊥
no_number s u r u_is r_is absent number rest b =
    let same : (b.0 ≡ u) × (rest ≡ r) = next_word s b.0 r rest u u_is r_is b.1.some (digits_word b.0 b.1.all_digits) b.2 in
    absent number (subst (λ d. IsNumeral d number) same.0 b.1)

pub number_begins : (s u r : List ℕ) (number : ℕ) → u ≡ word_of (after_blanks s) → r ≡ after_word (after_blanks s) → IsNumeral u number → BeginsNumber number s r
number_begins s u r number u_is r_is n = (u, n, word_next s u r u_is r_is)

-- two words that stand in one place are one
word_same : (t u s r q : List ℕ) → t ≢ [] → AreAll is_word_byte t → u ≢ [] → AreAll is_word_byte u → Next t s r → Next u s q → (t ≡ u) × (r ≡ q)
word_same t u s r q t_some t_all u_some u_all a b =
    let x : (t ≡ word_of (after_blanks s)) × (r ≡ after_word (after_blanks s)) = next_word s t (after_word (after_blanks s)) r (word_of (after_blanks s)) refl refl t_some t_all a in
    let y : (u ≡ word_of (after_blanks s)) × (q ≡ after_word (after_blanks s)) = next_word s u (after_word (after_blanks s)) q (word_of (after_blanks s)) refl refl u_some u_all b in
    (x.0 ∙ sym y.0, x.1 ∙ sym y.1)

-- what is left of a method from its name on, from behind its name on, from its number on
abbrev pub FromNumber : ℕ → List ℕ → List ℕ → Type 0
FromNumber number s rest = (mid : List ℕ) × BeginsNumber number s mid × Next (codes "}") mid rest

abbrev pub FromType : ℕ → List ℕ → List ℕ → Type 0
FromType number s rest = (mid : List ℕ) × Reads before_number s mid × FromNumber number mid rest

abbrev pub FromName : Method → List ℕ → List ℕ → Type 0
FromName m s rest = (mid : List ℕ) × IsName m.name × Next m.name s mid × FromType m.number mid rest

abbrev pub FromHead : Method → List ℕ → List ℕ → Type 0
FromHead m s rest = (mid : List ℕ) × Reads before_name s mid × FromName m mid rest

pub method_parts : (m : Method) (s rest : List ℕ) → BeginsMethod m s rest → FromHead m s rest
method_parts m s rest b =
    let digits = b.is_method.digits in
    let reads : Reads (before_name ++ m.name ∷ (before_number ++ digits ∷ codes "}" ∷ [])) s rest = subst (λ ts. Reads ts s rest) b.is_method.spelled b.reads in
    let head : (mid : List ℕ) × Reads before_name s mid × Reads (m.name ∷ (before_number ++ digits ∷ codes "}" ∷ [])) mid rest = reads_split before_name (m.name ∷ (before_number ++ digits ∷ codes "}" ∷ [])) s rest reads in
    let type : (mid : List ℕ) × Reads before_number head.2.0 mid × Reads (digits ∷ codes "}" ∷ []) mid rest = reads_split before_number (digits ∷ codes "}" ∷ []) head.2.0 rest head.2.2 in
    let close : Next (codes "}") type.2.0 rest = subst (λ r. Next (codes "}") type.2.0 r) type.2.2.2 type.2.2.1 in
    (head.0, head.1, (head.2.0, b.is_method.is_name, head.2.1, (type.0, type.1, (type.2.0, (digits, b.is_method.is_numeral, type.2.1), close))))

pub method_whole : (m : Method) (s rest : List ℕ) → FromHead m s rest → BeginsMethod m s rest
method_whole m s rest h =
    let name = h.2 in
    let type = name.3 in
    let number = type.2 in
    let digits = number.1.0 in
    let end : Reads (digits ∷ codes "}" ∷ []) type.0 rest = (number.0, number.1.2, (rest, number.2, refl)) in
    let more : Reads (m.name ∷ (before_number ++ digits ∷ codes "}" ∷ [])) h.0 rest = (name.0, name.2, reads_join before_number (digits ∷ codes "}" ∷ []) name.0 type.0 rest type.1 end) in
    record {
      tokens = before_name ++ m.name ∷ (before_number ++ digits ∷ codes "}" ∷ []);
      is_method = record { is_name = name.1; digits = digits; is_numeral = number.1.1; spelled = refl };
      reads = reads_join before_name (m.name ∷ (before_number ++ digits ∷ codes "}" ∷ [])) s h.0 rest h.1 more;
    }

-- Each part is where the parts before it end.
pub at_name : (m : Method) (s h rest : List ℕ) → Reads before_name s h → BeginsMethod m s rest → FromName m h rest
at_name m s h rest reads b =
    let p : FromHead m s rest = method_parts m s rest b in
    subst (λ x. FromName m x rest) (reads_same before_name s p.0 h (refl, (refl, (refl, tt))) p.1 reads) p.2

pub at_type : (m : Method) (u h n rest : List ℕ) → IsName u → Next u h n → FromName m h rest → (m.name ≡ u) × FromType m.number n rest
at_type m u h n rest is_name next f =
    let same : (m.name ≡ u) × (f.0 ≡ n) = word_same m.name u h f.0 n f.1.some (letters_word m.name f.1.letters) is_name.some (letters_word u is_name.letters) f.2 next in
    (same.0, subst (λ x. FromType m.number x rest) same.1 f.3)

pub at_number : (number : ℕ) (n p rest : List ℕ) → Reads before_number n p → FromType number n rest → FromNumber number p rest
at_number number n p rest reads f =
    subst (λ x. FromNumber number x rest) (reads_same before_number n f.0 p (refl, (refl, (refl, (refl, (refl, (refl, tt)))))) f.1 reads) f.2

pub at_close : (number k : ℕ) (p q rest : List ℕ) → BeginsNumber k p q → FromNumber number p rest → (number ≡ k) × Next (codes "}") q rest
at_close number k p q rest (digits, numeral, next) (mid, (digits', numeral', next'), close) =
    let same : (digits' ≡ digits) × (mid ≡ q) = word_same digits' digits p mid q numeral'.some (digits_word digits' numeral'.all_digits) numeral.some (digits_word digits numeral.all_digits) next' next in
    (sym numeral'.value ∙ ap (digits_value 10) same.0 ∙ numeral.value, subst (λ x. Next (codes "}") x rest) same.1 close)

-- A part that isn't there: no method stands there.
pub no_head : (s : List ℕ) → ((h : List ℕ) → Reads before_name s h → ⊥) → (m : Method) (rest : List ℕ) → BeginsMethod m s rest → ⊥
no_head s absent m rest b = let p : FromHead m s rest = method_parts m s rest b in absent p.0 p.1

pub no_name_there : (s h : List ℕ) → Reads before_name s h → ((name r : List ℕ) → IsName name → Next name h r → ⊥) → (m : Method) (rest : List ℕ) → BeginsMethod m s rest → ⊥
no_name_there s h reads absent m rest b = let f : FromName m h rest = at_name m s h rest reads b in absent m.name f.0 f.1 f.2

pub no_type_there : (s h u n : List ℕ) → Reads before_name s h → IsName u × Next u h n → ((p : List ℕ) → Reads before_number n p → ⊥) → (m : Method) (rest : List ℕ) → BeginsMethod m s rest → ⊥
no_type_there s h u n reads name absent m rest b =
    let f : (m.name ≡ u) × FromType m.number n rest = at_type m u h n rest name.0 name.1 (at_name m s h rest reads b) in
    absent f.1.0 f.1.1

pub no_number_there : (s h u n p : List ℕ) → Reads before_name s h → IsName u × Next u h n → Reads before_number n p → ((k : ℕ) (q : List ℕ) → BeginsNumber k p q → ⊥) → (m : Method) (rest : List ℕ) → BeginsMethod m s rest → ⊥
no_number_there s h u n p reads name type absent m rest b =
    let f : (m.name ≡ u) × FromType m.number n rest = at_type m u h n rest name.0 name.1 (at_name m s h rest reads b) in
    let g : FromNumber m.number p rest = at_number m.number n p rest type f.1 in
    absent m.number g.0 g.1

pub no_close_there : (s h u n p q : List ℕ) (k : ℕ) → Reads before_name s h → IsName u × Next u h n → Reads before_number n p → BeginsNumber k p q → ((r : List ℕ) → Next (codes "}") q r → ⊥) → (m : Method) (rest : List ℕ) → BeginsMethod m s rest → ⊥
no_close_there s h u n p q k reads name type number absent m rest b =
    let f : (m.name ≡ u) × FromType m.number n rest = at_type m u h n rest name.0 name.1 (at_name m s h rest reads b) in
    let g : (m.number ≡ k) × Next (codes "}") q rest = at_close m.number k p q rest number (at_number m.number n p rest type f.1) in
    absent rest g.1

pub method_there : (s h u n p q rest : List ℕ) (k : ℕ) → Reads before_name s h → IsName u × Next u h n → Reads before_number n p → BeginsNumber k p q → Next (codes "}") q rest → BeginsMethod (record { name = u; number = k }) s rest
method_there s h u n p q rest k reads name type number close = method_whole (record { name = u; number = k }) s rest (h, reads, (n, name.0, name.1, (p, type, (q, number, close))))

-- One method at most stands in a place.
method_of : (m : Method) (name : List ℕ) (number : ℕ) → m.name ≡ name → m.number ≡ number → m ≡ record { name = name; number = number }
method_of m name number e f =
    let P : List ℕ → Type 0 = λ x. m ≡ record { name = x; number = number } in
    let Q : ℕ → Type 0 = λ y. m ≡ record { name = m.name; number = y } in
    subst P e (subst Q f refl)

pub method_same : (m n : Method) (s r q : List ℕ) → BeginsMethod m s r → BeginsMethod n s q → (m ≡ n) × (r ≡ q)
method_same m n s r q a b =
    let x : FromHead m s r = method_parts m s r a in
    let type = x.2.3 in
    let f : (n.name ≡ m.name) × FromType n.number x.2.0 q = at_type n m.name x.0 x.2.0 q x.2.1 x.2.2 (at_name n s x.0 q x.1 b) in
    let g : (n.number ≡ m.number) × Next (codes "}") type.2.0 q = at_close n.number m.number type.0 type.2.0 q type.2.1 (at_number n.number x.2.0 type.0 q type.1 f.1) in
    (method_of m n.name n.number (sym f.0) (sym g.0), next_same (codes "}") type.2.0 r q refl type.2.2 g.1)
