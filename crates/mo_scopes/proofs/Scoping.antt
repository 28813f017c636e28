-- A scope is as before once what was added is taken away.
use Rattle.std.proofs.Common.{◌≡◌, List, ◌++◌, length, take, ap, ◌∙◌, append_assoc}
use Rattle.std.proofs.Math.Seq.{take-append_seam}

pub seam : {A : Type 0} (xs ys : List A) → take (length xs) (xs ++ ys) ≡ xs
seam xs ys = take-append_seam xs ys

pub seam_twice : {A : Type 0} (xs ys zs : List A) → take (length xs) ((xs ++ ys) ++ zs) ≡ xs
seam_twice xs ys zs = ap (take (length xs)) (append_assoc xs ys zs) ∙ take-append_seam xs (ys ++ zs)
