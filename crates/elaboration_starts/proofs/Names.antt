-- At the end of a start the names of the declarations have their values in Core, in a row.
use Rattle.std.proofs.Common.{◌≡◌, ℕ, zero, suc, ◌+◌, List, [], ◌∷◌, ◌++◌, length, refl, subst, arith}
use Rattle.core_ir.specs.Values as core_value
use Rattle.elaboration.specs.Checks.{locals}
use Rattle.elaboration.specs.Meeting.{Reads, ReadEach, Extends}
use Rattle.elaboration.specs.Programs.{own_from}
use Rattle.elaboration.proofs.Coming.{reads_new, reads_more}
use Rattle.elaboration_actors.specs.Starts.{ReadNames}
use Rattle.elaboration_starts.proofs.DeclaredCode.{levels_down}

pub names_before : (ws rest : List core_value.Value) → Extends rest (ws ++ rest)
names_before [] rest = λ level w r. r
names_before (u ∷ ws) rest = λ level w r. reads_more (ws ++ rest) u level w (names_before ws rest level w r)

length_and : (ws rest : List core_value.Value) → length (ws ++ rest) ≡ length ws + length rest
length_and [] rest = omega arith
length_and (w ∷ ws) rest = let z : length (ws ++ rest) ≡ length ws + length rest = length_and ws rest in omega (arith, z)

each_more : (env : List core_value.Value) (x : core_value.Value) (levels : List ℕ) (ws : List core_value.Value) → ReadEach env levels ws → ReadEach (x ∷ env) levels ws
each_more env x [] [] r = tt
each_more env x [] (w ∷ ws) r = absurd r
each_more env x (l ∷ levels) [] r = absurd r
each_more env x (l ∷ levels) (w ∷ ws) r = (reads_more env x l w (r.0), each_more env x levels ws (r.1))

pub read_each : (ws rest : List core_value.Value) → ReadEach (ws ++ rest) (levels_down (length rest) (length ws)) ws
read_each [] rest = tt
read_each (w ∷ ws) rest =
    (subst (λ n. Reads (w ∷ (ws ++ rest)) n w) (length_and ws rest) (reads_new (ws ++ rest) w), each_more (ws ++ rest) w (levels_down (length rest) (length ws)) ws (read_each ws rest))

-- those of the actor are passed
none_read : (vals : List core_value.Value) (i n : ℕ) → ReadNames vals (own_from i n) []
none_read vals i zero = refl
none_read vals i (suc n) = none_read vals (suc i) n

pub read_names : (vals : List core_value.Value) (levels : List ℕ) (ws : List core_value.Value) (i n : ℕ) → ReadEach vals levels ws → ReadNames vals (locals levels ++ own_from i n) ws
read_names vals [] [] i n r = none_read vals i n
read_names vals [] (w ∷ ws) i n r = absurd r
read_names vals (l ∷ levels) [] i n r = absurd r
read_names vals (l ∷ levels) (w ∷ ws) i n r = (w, ws, r.0, read_names vals levels ws i n (r.1), refl)
