-- Each routine of a linked module is at its place.
use Rattle.std.proofs.Common.{◌≡◌, ◌+◌, ℕ, zero, suc, List, [], ◌∷◌, ◌++◌, map, Some, slice_get, ap, ◌∙◌, arith}
use Rattle.low_ir.specs.declared.routines.Routine.{Routine}
use Rattle.low_ir.specs.declared.module_parts.LowFunction.{LowFunction}
use Rattle.run_time_link.specs.Linking.{function_of, functions_from, type_of_routine, entry_function, first_signature}
use Rattle.run_time_link.specs.Laws.{RoutinesArePlaced}

function_at : (signature : ℕ) (routines : List Routine) (others : List LowFunction) (k : ℕ) (r : Routine) → slice_get routines k ≡ Some r
    → slice_get (functions_from signature routines ++ others) k ≡ Some (function_of (signature + k) r)
function_at signature [] others k r e = absurd (cc)
function_at signature (x ∷ rs) others zero r e = let same : x ≡ r = cc in let none : signature ≡ signature + 0 = omega arith in λ i. Some (function_of (none i) (same i))
function_at signature (x ∷ rs) others (suc k) r e =
    let next : suc signature + k ≡ signature + suc k = omega arith in
    function_at (suc signature) rs others k r e ∙ ap (λ n. Some (function_of n r)) next

type_at : (routines : List Routine) (k : ℕ) (r : Routine) → slice_get routines k ≡ Some r → slice_get (map type_of_routine routines) k ≡ Some (type_of_routine r)
type_at [] k r e = absurd (cc)
type_at (x ∷ rs) zero r e = let same : x ≡ r = cc in ap (λ x. Some (type_of_routine x)) same
type_at (x ∷ rs) (suc k) r e = type_at rs k r e

pub placed : RoutinesArePlaced
placed routines entries around k r e = record { typed = type_at routines k r e; there = function_at first_signature routines (map entry_function entries) k r e }
