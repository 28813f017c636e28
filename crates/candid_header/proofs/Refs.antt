-- References to types are read exactly.
use Rattle.std.proofs.Common.{◌≡◌, ℕ, ◌≤◌, ◌<◌, Bool, true, false, cond, List, [], ◌∷◌, ◌++◌, Option, Some, None, Result, Ok, Err, inl, inr, refl, sym, ap, ◌∙◌, subst, arith, ℤ, pos, negsuc}
use Rattle.std.specs.Prelude.{nat_lt}
use Rattle.std.proofs.lemmas.Bool.{lt-ltb, ltb-true}
use Rattle.std.proofs.lemmas.Int.{ints}
use Rattle.mo_num.specs.Leb.{IsSleb}
use Rattle.mo_types.specs.declared.wire.Plain.{Plain}
use Rattle.mo_types.specs.declared.wire.Plain.TheVariants as plain
use Rattle.mo_types.specs.declared.wire.TableRef.{TableRef}
use Rattle.mo_types.specs.declared.wire.TableRef.TheVariants.{Plainly, At}
use Rattle.mo_types.specs.Wire.{plain_code, plain_of_code}
use Rattle.mo_types.specs.Spelling.{padded}
use Rattle.mo_types.specs.Header.{IsTableRef, IsWithin}
use Rattle.candid_header.specs.declared.fault.Fault.{Fault}
use Rattle.candid_header.specs.declared.fault.Fault.TheVariants.{BadTable}
use Rattle.exact_reading.specs.Reading.{◌>>=◌}
use Rattle.candid_header.specs.Reading.{s33_at}
use Rattle.candid_header.specs.Table.{number_of, number_at, ref_by, ref_at}
use Rattle.exact_reading.proofs.Exact.{Front, Exact, bind_ok, not_ok, same_pair, eq_is}
use Rattle.candid_header.proofs.Exact.{okay}
use Rattle.candid_header.proofs.Numbers.{IsS33, s33_exact}

some_is : {x y : Plain} → Some x ≡ Some y → x ≡ y
some_is e = cc

pick : {t : Bool} {x : Plain} {more : Option Plain} {p : Plain} {C : Type 0} → cond t (Some x) more ≡ Some p → (t ≡ true → x ≡ p → C) → (more ≡ Some p → C) → C
pick {t = true} e f g = f refl (some_is e)
pick {t = false} e f g = g e

none_some : {C : Type 0} (p : Plain) (none : Option Plain) → none ≡ None → none ≡ Some p → C
none_some p none e f = absurd cc

-- The type of a byte has that code.
pub code_of : (b : ℕ) (p : Plain) → plain_of_code b ≡ Some p → b ≡ plain_code p
code_of b p e =
    pick e (λ t x. eq_is b 0x7f t ∙ ap plain_code x) (λ e.
    pick e (λ t x. eq_is b 0x7e t ∙ ap plain_code x) (λ e.
    pick e (λ t x. eq_is b 0x7d t ∙ ap plain_code x) (λ e.
    pick e (λ t x. eq_is b 0x7c t ∙ ap plain_code x) (λ e.
    pick e (λ t x. eq_is b 0x7b t ∙ ap plain_code x) (λ e.
    pick e (λ t x. eq_is b 0x7a t ∙ ap plain_code x) (λ e.
    pick e (λ t x. eq_is b 0x79 t ∙ ap plain_code x) (λ e.
    pick e (λ t x. eq_is b 0x78 t ∙ ap plain_code x) (λ e.
    pick e (λ t x. eq_is b 0x77 t ∙ ap plain_code x) (λ e.
    pick e (λ t x. eq_is b 0x76 t ∙ ap plain_code x) (λ e.
    pick e (λ t x. eq_is b 0x75 t ∙ ap plain_code x) (λ e.
    pick e (λ t x. eq_is b 0x74 t ∙ ap plain_code x) (λ e.
    pick e (λ t x. eq_is b 0x73 t ∙ ap plain_code x) (λ e.
    pick e (λ t x. eq_is b 0x72 t ∙ ap plain_code x) (λ e.
    pick e (λ t x. eq_is b 0x71 t ∙ ap plain_code x) (λ e.
    pick e (λ t x. eq_is b 0x70 t ∙ ap plain_code x) (λ e.
    pick e (λ t x. eq_is b 0x6f t ∙ ap plain_code x) (λ e.
    pick e (λ t x. eq_is b 0x68 t ∙ ap plain_code x) (λ e.
    none_some p None refl e))))))))))))))))))

-- A code is read as its type.
pub of_code : (p : Plain) → plain_of_code (plain_code p) ≡ Some p
of_code plain.Null = refl
of_code plain.Bool = refl
of_code plain.Nat = refl
of_code plain.Int = refl
of_code plain.Nat8 = refl
of_code plain.Nat16 = refl
of_code plain.Nat32 = refl
of_code plain.Nat64 = refl
of_code plain.Int8 = refl
of_code plain.Int16 = refl
of_code plain.Int32 = refl
of_code plain.Int64 = refl
of_code plain.Float32 = refl
of_code plain.Float64 = refl
of_code plain.Text = refl
of_code plain.Reserved = refl
of_code plain.Empty = refl
of_code plain.Principal = refl

abbrev pub IsCode : ℕ → Type 0
IsCode b = (64 ≤ b) × (b < 128)

pub code_range : (p : Plain) → IsCode (plain_code p)
code_range plain.Null = (omega arith, omega arith)
code_range plain.Bool = (omega arith, omega arith)
code_range plain.Nat = (omega arith, omega arith)
code_range plain.Int = (omega arith, omega arith)
code_range plain.Nat8 = (omega arith, omega arith)
code_range plain.Nat16 = (omega arith, omega arith)
code_range plain.Nat32 = (omega arith, omega arith)
code_range plain.Nat64 = (omega arith, omega arith)
code_range plain.Int8 = (omega arith, omega arith)
code_range plain.Int16 = (omega arith, omega arith)
code_range plain.Int32 = (omega arith, omega arith)
code_range plain.Int64 = (omega arith, omega arith)
code_range plain.Float32 = (omega arith, omega arith)
code_range plain.Float64 = (omega arith, omega arith)
code_range plain.Text = (omega arith, omega arith)
code_range plain.Reserved = (omega arith, omega arith)
code_range plain.Empty = (omega arith, omega arith)
code_range plain.Principal = (omega arith, omega arith)

-- No byte outside that range is a code.
no_code : (b : ℕ) → (IsCode b → ⊥) → plain_of_code b ≡ None
no_code b out = by (plain_of_code b) refl
  where
    by : (o : Option Plain) → plain_of_code b ≡ o → o ≡ None
    by None e = refl
    by (Some p) e = absurd (out (subst IsCode (sym (code_of b p e)) (code_range p)))

-- A number that is not negative begins with no code.
number_first : (b : ℕ) (bs : List ℕ) (i : ℕ) → IsSleb (b ∷ bs) (pos i) → IsCode b → ⊥
number_first b [] i (inl h) c = omega (arith, h.0, c.0)
number_first b [] i (inr h) c = omega (arith, ints, h.0, h.1, h.2)
number_first b (x ∷ xs) i h c = omega (arith, h.0, c.1)

-- a type, by its code or its number in a table of so many entries
abbrev pub IsRefIn : ℕ → TableRef → List ℕ → Type 0
IsRefIn n r bytes = IsTableRef padded r bytes × IsWithin n r

numbered : (n : ℕ) (z : ℤ) (bytes rest : List ℕ) (r : TableRef × List ℕ) → (number_of n z >>= λ i. Ok (At i, rest)) ≡ okay r → Front IsS33 bytes z rest → Front (IsRefIn n) bytes r.0 r.1
numbered n (negsuc i) bytes rest r e a = absurd (not_ok e)
numbered n (pos i) bytes rest r e a = by (nat_lt i n) refl e
  where
    by : (t : Bool) → nat_lt i n ≡ t → (cond {A = Result ℕ Fault} t (Ok i) (Err BadTable) >>= λ i. Ok (At i, rest)) ≡ okay r → Front (IsRefIn n) bytes r.0 r.1
    by false t h = absurd (not_ok h)
    by true t h = same_pair (IsRefIn n) bytes (At i, rest) r h (record { front = a.front; split = a.split; spells = (a.spells, ltb-true i n t) })

pub ref_exact : (n : ℕ) → Exact (IsRefIn n) (ref_at n)
unfolding ref_at number_at
ref_exact n = record { sound = sound; complete = complete }
  where
    sound : (bytes : List ℕ) (r : TableRef × List ℕ) → ref_at n bytes ≡ Ok r → Front (IsRefIn n) bytes r.0 r.1
    sound [] r e = absurd (not_ok e)
    sound (b ∷ rest) r e = by (plain_of_code b) refl e
      where
        by : (o : Option Plain) → plain_of_code b ≡ o → ref_by n b rest o ≡ Ok r → Front (IsRefIn n) (b ∷ rest) r.0 r.1
        by (Some p) t h = same_pair (IsRefIn n) (b ∷ rest) (Plainly p, rest) r h (record { front = b ∷ []; split = refl; spells = (ap (λ c. c ∷ []) (code_of b p t), tt) })
        by None t h =
            let s = bind_ok (s33_at (b ∷ rest)) _ r h in
            numbered n s.0.0 (b ∷ rest) s.0.1 r s.2 (s33_exact.sound (b ∷ rest) s.0 s.1)

    complete : (x : TableRef) (front rest : List ℕ) → IsRefIn n x front → ref_at n (front ++ rest) ≡ Ok (x, rest)
    complete (Plainly p) front rest h = ap (λ l. ref_at n (l ++ rest)) h.0 ∙ ap (λ o. ref_by n (plain_code p) rest o) (of_code p)
    complete (At i) [] rest h = absurd h.0.0
    complete (At i) (b ∷ bs) rest h =
        ap (λ o. ref_by n b (bs ++ rest) o) (no_code b (number_first b bs i h.0.0))
        ∙ ap (λ (s : Result (ℤ × List ℕ) Fault). s >>= λ z. number_of n z.0 >>= λ i. Ok (At i, z.1)) (s33_exact.complete (pos i) (b ∷ bs) rest h.0)
        ∙ ap (λ t. cond {A = Result ℕ Fault} t (Ok i) (Err BadTable) >>= λ i. Ok (At i, rest)) (lt-ltb i n h.1)
