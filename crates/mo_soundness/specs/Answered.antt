-- A reduction that asks, and one that was given what it asks for (Motoko language manual, sections "Function calls" and "Await").
use Rattle.mo_meaning.specs.Acts.{Act, Goes, Asks, Awaits, Throws, Traps}

-- a call of a shared function, or an `await`
abbrev pub IsAsking : Act → Type 0
IsAsking (Asks request) = Unit {0}
IsAsking (Awaits nodes call) = Unit {0}
IsAsking _ = ⊥

-- it goes on, throws or traps
abbrev pub IsAnswered : Act → Type 0
IsAnswered (Goes cost store e) = Unit {0}
IsAnswered (Throws cost error) = Unit {0}
IsAnswered (Traps cost text) = Unit {0}
IsAnswered _ = ⊥
