-- What the steps of a parser say of the tokens.
use Rattle.std.proofs.Common.{◌≡◌, ℕ, Bool, true, false, List, [], ◌∷◌, ◌++◌, Option, Some, None, refl, sym, ap, ◌∙◌, subst, rules}
use Rattle.std.specs.Prelude.{if◌then◌else◌, ◌≢◌}
use denote.Enum.Bare.{same_true, same_false, true_same, false_same}
use Rattle.mo_syntax.specs.declared.name.Name.{Name}
use Rattle.mo_syntax.specs.declared.text.Text.{Text}
use Rattle.mo_syntax.specs.contracts.mark.Mark as a_mark
use Rattle.mo_syntax.specs.contracts.word.Word as a_word
use Rattle.mo_syntax.specs.declared.token.TokenKind.{TokenKind}
use Rattle.mo_syntax.specs.declared.token.TokenKind.TheVariants as t
use Rattle.mo_syntax.specs.declared.word.Word.{Word}
use Rattle.mo_syntax.specs.declared.word.Word.TheVariants as w
use Rattle.mo_syntax.specs.declared.mark.Mark.{Mark}
use Rattle.mo_syntax.specs.declared.literal.Literal.{Literal}
use Rattle.mo_syntax.specs.declared.literal.Literal.TheVariants as lit
use Rattle.mo_syntax.specs.Writing.{literal_token}
use Rattle.mo_syntax.specs.ExpressionGrammar.{first}
use Rattle.mo_parser_base.specs.Input.{Input, Outcome, Parser, and_then, same_mark, same_word, is_sign, sees, next, after, expect, identifier, number, text, literal, literal_of, taken, look, label}
use Rattle.mo_syntax.specs.TypeGrammar.{item_name}
use Rattle.mo_syntax.specs.declared.mark.Mark.TheVariants as m
use Rattle.mo_parser_base.specs.declared.look.Look.TheVariants as l

-- a word or a mark
abbrev pub IsSign : TokenKind → Type 0
IsSign (t.Reserved word) = Unit {0}
IsSign (t.Mark mark) = Unit {0}
IsSign _ = ⊥

mark_from_true : (a b : Mark) → same_mark a b ≡ true → a ≡ b
unfolding same_mark
mark_from_true a b h = same_true a_mark.the_type (search rules) a b h

word_from_true : (a b : Word) → same_word a b ≡ true → a ≡ b
unfolding same_word
word_from_true a b h = same_true a_word.the_type (search rules) a b h

pub mark_refl : (a : Mark) → same_mark a a ≡ true
unfolding same_mark
mark_refl a = true_same a_mark.the_type a a refl

pub word_refl : (a : Word) → same_word a a ≡ true
unfolding same_word
word_refl a = true_same a_word.the_type a a refl

mark_differs : (a b : Mark) → same_mark a b ≡ false → a ≢ b
unfolding same_mark
mark_differs a b h = same_false a_mark.the_type a b h

word_differs : (a b : Word) → same_word a b ≡ false → a ≢ b
unfolding same_word
word_differs a b h = same_false a_word.the_type a b h

pub mark_false : (a b : Mark) → a ≢ b → same_mark a b ≡ false
unfolding same_mark
mark_false a b h = false_same a_mark.the_type (search rules) a b h

pub word_false : (a b : Word) → a ≢ b → same_word a b ≡ false
unfolding same_word
word_false a b h = false_same a_word.the_type (search rules) a b h

pub sign_from_true : (s x : TokenKind) → is_sign s x ≡ true → x ≡ s
sign_from_true (t.Reserved a) (t.Reserved b) h = ap (λ z. t.Reserved z) (word_from_true b a h)
sign_from_true (t.Mark a) (t.Mark b) h = ap (λ z. t.Mark z) (mark_from_true b a h)
sign_from_true _ _ h = absurd (cc)

pub sign_refl : (s : TokenKind) → IsSign s → is_sign s s ≡ true
sign_refl (t.Reserved a) h = word_refl a
sign_refl (t.Mark a) h = mark_refl a
sign_refl _ h = absurd h

sign_differs : (s x : TokenKind) → IsSign s → is_sign s x ≡ false → x ≢ s
sign_differs (t.Reserved a) (t.Reserved b) sign h = λ e. word_differs b a h (cc)
sign_differs (t.Mark a) (t.Mark b) sign h = λ e. mark_differs b a h (cc)
sign_differs s x sign h = λ e. let always : is_sign x x ≡ true = subst (λ z. is_sign z z ≡ true) (sym e) (sign_refl s sign) in
    let never : is_sign x x ≡ false = subst (λ z. is_sign z x ≡ false) (sym e) h in cc

sign_false : (s x : TokenKind) → x ≢ s → is_sign s x ≡ false
sign_false (t.Reserved a) (t.Reserved b) h = word_false b a (λ e. h (ap (λ z. t.Reserved z) e))
sign_false (t.Mark a) (t.Mark b) h = mark_false b a (λ e. h (ap (λ z. t.Mark z) e))
sign_false _ _ h = refl

pub sees_true : (s : TokenKind) (i : Input) → sees s i ≡ true → i ≡ s ∷ next i
sees_true s [] h = absurd (cc)
sees_true s (x ∷ i) h = ap (λ z. z ∷ i) (sign_from_true s x h)

pub sees_false : (s : TokenKind) → IsSign s → (i : Input) → sees s i ≡ false → first i ≢ Some s
sees_false s sign [] h = λ e. cc
sees_false s sign (x ∷ i) h = λ e. sign_differs s x sign h (cc)

pub sees_it : (s : TokenKind) → IsSign s → (i : Input) → sees s (s ∷ i) ≡ true
sees_it s sign i = sign_refl s sign

pub sees_other : (s : TokenKind) (i : Input) → first i ≢ Some s → sees s i ≡ false
sees_other s [] h = refl
sees_other s (x ∷ i) h = sign_false s x (λ e. h (ap (λ z. Some z) e))

abbrev pub some : {A : Type 0} → A → Option A
some x = Some x

pub some_is : {A : Type 0} (x y : A) → some x ≡ Some y → x ≡ y
some_is x y h = cc

pub some_not : {A C : Type 0} (x : A) → some x ≡ None → C
some_not x h = absurd (cc)

pub none_not : {A C : Type 0} (x : A) (o : Option A) → o ≡ None → o ≡ Some x → C
none_not x o h e = absurd (cc)

-- ---- the steps, each with what follows from it: a proof goes on with what the step took

pub bind_ok : {A B C : Type 0} (r : Outcome A) (f : A → Parser B) (y : B × Input) → and_then r f ≡ Some y →
    ((x : A) (j : Input) → r ≡ Some (x, j) → f x j ≡ Some y → C) → C
bind_ok (Some p) f y h go = go p.0 p.1 refl h
bind_ok None f y h go = absurd (cc)

cases_eat : {A C : Type 0} (s : Bool) (p q : Parser A) (n i : Input) (y : A × Input) → (if s then p else q) (if s then n else i) ≡ Some y →
    (s ≡ true → p n ≡ Some y → C) → (s ≡ false → q i ≡ Some y → C) → C
cases_eat true p q n i y h go else_go = go refl h
cases_eat false p q n i y h go else_go = else_go refl h

-- a step that may take a token
pub eat_ok : {A C : Type 0} (s : TokenKind) → IsSign s → (i : Input) (p q : Parser A) (y : A × Input) → (if sees s i then p else q) (after s i) ≡ Some y →
    ((j : Input) → i ≡ s ∷ j → p j ≡ Some y → C) → (first i ≢ Some s → q i ≡ Some y → C) → C
unfolding after
eat_ok s sign i p q y h go else_go = cases_eat (sees s i) p q (next i) i y h
    (λ is r. go (next i) (sees_true s i is) r)
    (λ is r. else_go (sees_false s sign i is) r)

cases_expect : {B C : Type 0} (s : Bool) (n : Input) (f : Unit {0} → Parser B) (y : B × Input) → and_then (if s then Some (tt, n) else None) f ≡ Some y →
    (s ≡ true → f tt n ≡ Some y → C) → C
cases_expect true n f y h go = go refl h
cases_expect false n f y h go = absurd (cc)

-- a step that wants a token
pub expect_ok : {B C : Type 0} (s : TokenKind) (i : Input) (f : Unit {0} → Parser B) (y : B × Input) → and_then (expect s i) f ≡ Some y →
    ((j : Input) → i ≡ s ∷ j → f tt j ≡ Some y → C) → C
unfolding expect
expect_ok s i f y h go = cases_expect (sees s i) (next i) f y h (λ is r. go (next i) (sees_true s i is) r)

pub identifier_ok : (i : Input) (x : Name) (j : Input) → identifier i ≡ Some (x, j) → i ≡ t.Identifier x ∷ j
unfolding identifier
identifier_ok [] x j h = absurd (cc)
identifier_ok (t.Identifier y ∷ i) x j h = ap (λ z. t.Identifier z.0 ∷ z.1) (some_is (y, i) (x, j) h)
identifier_ok (_ ∷ i) x j h = absurd (cc)

pub number_ok : (i : Input) (n : ℕ) (j : Input) → number i ≡ Some (n, j) → i ≡ t.Number n ∷ j
unfolding number
number_ok [] x j h = absurd (cc)
number_ok (t.Number y ∷ i) x j h = ap (λ z. t.Number z.0 ∷ z.1) (some_is (y, i) (x, j) h)
number_ok (_ ∷ i) x j h = absurd (cc)

pub text_ok : (i : Input) (n : Text) (j : Input) → text i ≡ Some (n, j) → i ≡ t.Text n ∷ j
unfolding text
text_ok [] x j h = absurd (cc)
text_ok (t.Text y ∷ i) x j h = ap (λ z. t.Text z.0 ∷ z.1) (some_is (y, i) (x, j) h)
text_ok (_ ∷ i) x j h = absurd (cc)

literal_of_word : (x : Word) (y : Literal) → literal_of (t.Reserved x) ≡ Some y → t.Reserved x ≡ literal_token y
literal_of_word w.True y h = ap literal_token (some_is lit.True y h)
literal_of_word w.False y h = ap literal_token (some_is lit.False y h)
literal_of_word w.Null y h = ap literal_token (some_is lit.Null y h)
literal_of_word _ y h = absurd (cc)

literal_of_ok : (x : TokenKind) (y : Literal) → literal_of x ≡ Some y → x ≡ literal_token y
literal_of_ok (t.Number n) y h = ap literal_token (some_is (lit.Number n) y h)
literal_of_ok (t.Character n) y h = ap literal_token (some_is (lit.Character n) y h)
literal_of_ok (t.Text n) y h = ap literal_token (some_is (lit.Text n) y h)
literal_of_ok (t.Reserved x) y h = literal_of_word x y h
literal_of_ok (t.Identifier x) y h = absurd (cc)
literal_of_ok (t.Mark x) y h = absurd (cc)

taken_ok : (x : TokenKind) (i : Input) (o : Option Literal) → literal_of x ≡ o → (y : Literal) (j : Input) → taken o i ≡ Some (y, j) → x ∷ i ≡ literal_token y ∷ j
taken_ok x i (Some z) e y j h = let same = some_is (z, i) (y, j) h in
    ap (λ u. u ∷ i) (literal_of_ok x z e) ∙ ap (λ u. literal_token u.0 ∷ u.1) same
taken_ok x i None e y j h = absurd (cc)

pub literal_ok : (i : Input) (y : Literal) (j : Input) → literal i ≡ Some (y, j) → i ≡ literal_token y ∷ j
unfolding literal
literal_ok [] y j h = absurd (cc)
literal_ok (x ∷ i) y j h = taken_ok x i (literal_of x) refl y j h

pub literal_takes : (y : Literal) (j : Input) → literal (literal_token y ∷ j) ≡ Some (y, j)
unfolding literal
literal_takes (lit.Number n) j = refl
literal_takes (lit.Character n) j = refl
literal_takes (lit.Text n) j = refl
literal_takes lit.True j = refl
literal_takes lit.False j = refl
literal_takes lit.Null j = refl

-- ---- the same steps, where it is known what comes

pub bind_takes : {A B : Type 0} (r : Outcome A) (f : A → Parser B) (x : A) (j : Input) → r ≡ Some (x, j) → and_then r f ≡ f x j
bind_takes r f x j e = ap (λ z. and_then z f) e

pub eat_takes : {A : Type 0} (s : TokenKind) → IsSign s → (i : Input) (p q : Parser A) → (if sees s (s ∷ i) then p else q) (after s (s ∷ i)) ≡ p i
unfolding after
eat_takes s sign i p q = ap (λ b. (if b then p else q) (if b then i else s ∷ i)) (sees_it s sign i)

pub eat_leaves : {A : Type 0} (s : TokenKind) (i : Input) (p q : Parser A) → first i ≢ Some s → (if sees s i then p else q) (after s i) ≡ q i
unfolding after
eat_leaves s i p q differs = ap (λ b. (if b then p else q) (if b then next i else i)) (sees_other s i differs)

pub expect_takes : {B : Type 0} (s : TokenKind) → IsSign s → (i : Input) (f : Unit {0} → Parser B) → and_then (expect s (s ∷ i)) f ≡ f tt i
unfolding expect
expect_takes s sign i f = ap (λ b. and_then (if b then Some (tt, i) else None) f) (sees_it s sign i)

-- ---- what comes next

same_look_mark : (a b : Mark) → l.Mark a ≡ l.Mark b → a ≡ b
same_look_mark a b h = cc

same_look_word : (a b : Word) → l.Reserved a ≡ l.Reserved b → a ≡ b
same_look_word a b h = cc

pub look_mark : (i : Input) (a : Mark) → look i ≡ l.Mark a → i ≡ t.Mark a ∷ next i
look_mark [] a h = absurd (cc)
look_mark (t.Mark b ∷ i) a h = ap (λ z. z ∷ i) (ap (λ z. t.Mark z) (same_look_mark b a h))
look_mark (_ ∷ i) a h = absurd (cc)

pub look_word : (i : Input) (a : Word) → look i ≡ l.Reserved a → i ≡ t.Reserved a ∷ next i
look_word [] a h = absurd (cc)
look_word (t.Reserved b ∷ i) a h = ap (λ z. z ∷ i) (ap (λ z. t.Reserved z) (same_look_word b a h))
look_word (_ ∷ i) a h = absurd (cc)

-- `[id ":"]`
pub label_ok : (i : Input) (x : Option Name) (j : Input) → label i ≡ Some (x, j) → i ≡ item_name x ++ j
unfolding label
label_ok (t.Identifier y ∷ t.Mark m.Colon ∷ i) x j h = ap (λ z. item_name z.0 ++ z.1) (some_is (Some y, i) (x, j) h)
label_ok i x j h = ap (λ z. item_name z.0 ++ z.1) (some_is (None, i) (x, j) h)

pub label_takes : (x : Name) (j : Input) → label (t.Identifier x ∷ t.Mark m.Colon ∷ j) ≡ Some (Some x, j)
unfolding label
label_takes x j = refl

pub label_leaves : (i : Input) → ((x : Name) (j : Input) → i ≢ t.Identifier x ∷ t.Mark m.Colon ∷ j) → label i ≡ Some (None, i)
unfolding label
label_leaves (t.Identifier y ∷ t.Mark m.Colon ∷ i) differs = absurd (differs y i refl)
label_leaves i differs = refl
