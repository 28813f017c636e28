-- Replies that are made one after another.
use Rattle.std.proofs.Common.{◌≡◌, ℕ, ◌+◌, ◌*◌, ◌^◌, ◌<◌, ◌≤◌, List, [], ◌∷◌, ◌++◌, length, length-append, arith, get_or, drop, ap, sym, refl, codes, append_assoc, ◌∙◌, add-one, drop-cons, suc, subst}
use Rattle.std.proofs.lemmas.List.{append-nil, drop_all}
use Rattle.mo_num.specs.Leb.{IsLeb}
use Rattle.mo_num.proofs.Bounds.{leb_within}
use Rattle.query_source.specs.Words.{IsName}
use Rattle.std.specs.List.{AllByRecursion, concat}
use Rattle.query_source.specs.declared.query.Method.{Method}
use Rattle.query_module.specs.Message.{empty_message, IsNatMessage}
use Rattle.query_module.specs.Tree.{AreNumbers, AreReplies}

-- Whatever completes the numbers of the methods from a place on, with the replies that are there, are the replies of all.
abbrev pub Completes : List Method → ℕ → List (List ℕ) → Type 0
Completes methods i replies = (rest : List (List ℕ)) → AreNumbers (drop i methods) rest → AreReplies methods (replies ++ rest)

-- What is left from a place on begins with the item there.
drop_item : {X : Type 0} (xs : List X) (i : ℕ) (x : X) → i < length xs → x ≡ get_or xs i x → drop i xs ≡ x ∷ drop (i + 1) xs
drop_item xs i x h e = rw (add-one, drop-cons xs i x) (ap (λ y. y ∷ drop (suc i) xs) (sym e))

pub replies_none : (methods : List Method) → Completes methods 0 (empty_message ∷ [])
replies_none methods rest all = record { numbers = rest; are_numbers = all; replies_are = refl }

pub replies_more : (methods : List Method) (i : ℕ) (m : Method) (reply : List ℕ) (replies : List (List ℕ)) → i < length methods → m ≡ get_or methods i m → IsNatMessage m.number reply → Completes methods i replies → Completes methods (i + 1) (replies ++ reply ∷ [])
replies_more methods i m reply replies lt e is h rest all =
    subst (λ x. AreReplies methods x) (sym (append_assoc replies (reply ∷ []) rest))
    (h (reply ∷ rest) (subst (λ x. AreNumbers x (reply ∷ rest)) (sym (drop_item methods i m lt e)) (is, all)))

pub replies_all : (methods : List Method) (i : ℕ) (replies : List (List ℕ)) → length methods ≤ i → Completes methods i replies → AreReplies methods replies
replies_all methods i replies le h =
    subst (λ x. AreReplies methods x) (append-nil replies) (h [] (subst (λ x. AreNumbers x []) (sym (drop_all i methods le)) tt))

-- A number below 2 ^ 63 takes nine digits in base 128 at most, behind seven bytes.
pub message_short : (number : ℕ) (bytes : List ℕ) → number < 2 ^ 63 → IsNatMessage number bytes → length bytes ≤ 16
message_short number bytes small is =
    let some : (digits : List ℕ) × IsLeb digits number × (length digits ≤ 9) = leb_within 8 number (omega arith) in
    let least : length is.digits ≤ length some.0 = is.spelled.least some.0 some.1 in
    let whole : length bytes ≡ length (codes "DIDL" ++ 0x00 ∷ 0x01 ∷ 0x7d ∷ is.digits) = ap length is.whole in
    omega (arith, some.2)

numbers_short : (methods : List Method) (numbers : List (List ℕ)) → AllByRecursion (λ m. IsName m.name × (m.number < 2 ^ 63)) methods → AreNumbers methods numbers → length (concat numbers) ≤ 16 * length methods
numbers_short [] [] named all = omega arith
numbers_short [] (r ∷ rs) named all = absurd all
numbers_short (m ∷ ms) [] named all = absurd all
numbers_short (m ∷ ms) (r ∷ rs) named all =
    let rest : length (concat rs) ≤ 16 * length ms = numbers_short ms rs named.1 all.1 in
    let first : length r ≤ 16 = message_short m.number r named.0.1 all.0 in
    omega (arith, length-append r (concat rs))

pub joined_short : (methods : List Method) (replies : List (List ℕ)) → AllByRecursion (λ m. IsName m.name × (m.number < 2 ^ 63)) methods → AreReplies methods replies → length (concat replies) ≤ 6 + 16 * length methods
joined_short methods replies named all =
    let rest : length (concat all.numbers) ≤ 16 * length methods = numbers_short methods all.numbers named all.are_numbers in
    let whole : length (concat replies) ≡ length (empty_message ++ concat all.numbers) = ap (λ rs. length (concat rs)) all.replies_are in
    omega (arith, length-append empty_message (concat all.numbers))

length_of_numbers : (methods : List Method) (numbers : List (List ℕ)) → AreNumbers methods numbers → length methods ≡ length numbers
length_of_numbers [] [] all = refl
length_of_numbers [] (r ∷ rs) all = absurd all
length_of_numbers (m ∷ ms) [] all = absurd all
length_of_numbers (m ∷ ms) (r ∷ rs) all = ap suc (length_of_numbers ms rs all.1)

pub length_of_replies : (methods : List Method) (replies : List (List ℕ)) → AreReplies methods replies → suc (length methods) ≡ length replies
length_of_replies methods replies all = ap suc (length_of_numbers methods all.numbers all.are_numbers) ∙ sym (ap length all.replies_are)
