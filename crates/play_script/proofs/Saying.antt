-- What the words of an event are, by its verb.
use Rattle.std.proofs.Common.{◌≡◌, ℕ, ◌+◌, ◌*◌, ◌<◌, ◌≤◌, Bool, true, false, List, [], ◌∷◌, length, Some, Option, refl, sym, ap, ◌∙◌, subst, arith, Ok, Err, Result}
use Rattle.play_script.specs.declared.event.Event.{Event}
use Rattle.play_script.specs.declared.event.Event.TheVariants.{Install, Call, Reply, Reject, Upgrade}
use Rattle.play_script.specs.declared.verb.Verb.{Verb}
use Rattle.play_script.specs.declared.verb.Verb.TheVariants as verb
use Rattle.play_script.specs.Words.{words_of, bytes_of}
use Rattle.play_script.specs.Events.{message_limit, message_length, IsFit, NamesModuleBelow, IsNoInstall}
use Rattle.play_script.specs.Scripts.{IsMethod, call_verb, verb_of, HasWords, Spells, word_of}
use Rattle.play_script.specs.Told.{IsSaid, Said, Told, NamesNone, IsEarly}
use Rattle.play_script.specs.declared.line.LineFault.{LineFault}
use Rattle.play_script.specs.declared.line.LineFault.TheVariants.{Bad, TooLong, NoModule, NotInstalled, Memory}

abbrev names_call : Verb → Bool
names_call verb.Install = false
names_call verb.Call = true
names_call verb.Query = true
names_call verb.Reply = false
names_call verb.Reject = false
names_call verb.Upgrade = false

is_call : (query : Bool) → names_call (call_verb query) ≡ true
is_call true = refl
is_call false = refl

no_call : (v : Verb) (query : Bool) → v ≡ call_verb query → names_call v ≡ false → ⊥
no_call v query same apart = let yes : names_call v ≡ true = ap names_call same ∙ is_call query in cc

-- the words of a call
pub record SaysCall (words : List (List ℕ)) : Type 0 where
  pub method : List ℕ
  pub c : List ℕ
  pub b : List ℕ
  pub caller : List ℕ
  pub bytes : List ℕ
  pub are : words ≡ method ∷ c ∷ b ∷ []
  pub named : IsMethod method
  pub from : bytes_of c ≡ Some caller
  pub short : length caller ≤ 29
  pub spelled : bytes_of b ≡ Some bytes

call_said : (words : List (List ℕ)) (query : Bool) (e : Event) → IsSaid (call_verb query) words e → SaysCall words
call_said words query (Install number) s = absurd (no_call verb.Install query s.named refl)
call_said words query (Call q method caller bytes) s =
    let h = s.said in
    record { method = method; c = h.0; b = h.1; caller = caller; bytes = bytes; are = h.2; named = h.3; from = h.4; short = h.5; spelled = h.6 }
call_said words query (Reply number bytes) s = absurd (no_call verb.Reply query s.named refl)
call_said words query (Reject number code text) s = absurd (no_call verb.Reject query s.named refl)
call_said words query (Upgrade number) s = absurd (no_call verb.Upgrade query s.named refl)

-- a caller of too many bytes is none
pub caller_refused : (words : List (List ℕ)) (query : Bool) (method caller bytes : List ℕ) (found : Option (List ℕ)) (held : List ℕ) (e : Event) → words ≡ method ∷ caller ∷ bytes ∷ []
    → found ≡ bytes_of caller → found ≡ Some held → 29 < length held → IsSaid (call_verb query) words e → ⊥
caller_refused words query method caller bytes found held e are of is long s =
    let said = call_said words query e s in
    let same : caller ≡ said.c = let both : method ∷ caller ∷ bytes ∷ [] ≡ said.method ∷ said.c ∷ said.b ∷ [] = sym are ∙ said.are in cc in
    let one : Some held ≡ Some said.caller = sym is ∙ of ∙ ap (λ (w : List ℕ). bytes_of w) same ∙ said.from in
    let equal : held ≡ said.caller = cc in
    omega (arith, ap length equal, said.short)

-- what is left of fitness, where the message is short
pub record IsPlain (modules : ℕ) (e : Event) : Type 0 where
  pub fit : IsFit e
  pub below : NamesModuleBelow modules e
  pub other : IsNoInstall e

pub plain : (v : Verb) (words : List (List ℕ)) (modules : ℕ) (e : Event) → NamesNone v → IsSaid v words e → message_length e ≤ message_limit → IsPlain modules e
plain v words modules (Install number) none s short = absurd (subst (λ (w : Verb). NamesNone w) (sym s.named) none)
plain v words modules (Call q method caller bytes) none s short = record { fit = short; below = tt; other = tt }
plain v words modules (Reply number bytes) none s short = record { fit = short; below = tt; other = tt }
plain v words modules (Reject number code text) none s short = let h = s.said in record { fit = (short, h.9); below = tt; other = tt }
plain v words modules (Upgrade number) none s short = absurd (subst (λ (w : Verb). NamesNone w) (sym s.named) none)

pub early : (v : Verb) (words : List (List ℕ)) (modules : ℕ) (begun : Bool) (read : Result Event LineFault) (e : Event) → NamesNone v → Said v words read → read ≡ Ok e
    → message_length e ≤ message_limit → begun ≡ false → (x : Event) × IsSaid v words x × IsEarly modules begun x
early v words modules begun read e none said is short first =
    let s : IsSaid v words e = subst (λ (r : Result Event LineFault). Said v words r) is said in
    let p = plain v words modules e none s short in
    (e, s, record { fit = p.fit; below = p.below; other = p.other; first = first })

-- the word of a verb is no other's
abbrev word_code : List ℕ → ℕ
word_code [] = 0
word_code (c ∷ cs) = c + 256 * length cs

pub word_of-injective : (u v : Verb) → word_of u ≡ word_of v → u ≡ v
word_of-injective verb.Install verb.Install e = refl
word_of-injective verb.Install verb.Call e = absurd (omega (arith, ap word_code e))
word_of-injective verb.Install verb.Query e = absurd (omega (arith, ap word_code e))
word_of-injective verb.Install verb.Reply e = absurd (omega (arith, ap word_code e))
word_of-injective verb.Install verb.Reject e = absurd (omega (arith, ap word_code e))
word_of-injective verb.Install verb.Upgrade e = absurd (omega (arith, ap word_code e))
word_of-injective verb.Call verb.Install e = absurd (omega (arith, ap word_code e))
word_of-injective verb.Call verb.Call e = refl
word_of-injective verb.Call verb.Query e = absurd (omega (arith, ap word_code e))
word_of-injective verb.Call verb.Reply e = absurd (omega (arith, ap word_code e))
word_of-injective verb.Call verb.Reject e = absurd (omega (arith, ap word_code e))
word_of-injective verb.Call verb.Upgrade e = absurd (omega (arith, ap word_code e))
word_of-injective verb.Query verb.Install e = absurd (omega (arith, ap word_code e))
word_of-injective verb.Query verb.Call e = absurd (omega (arith, ap word_code e))
word_of-injective verb.Query verb.Query e = refl
word_of-injective verb.Query verb.Reply e = absurd (omega (arith, ap word_code e))
word_of-injective verb.Query verb.Reject e = absurd (omega (arith, ap word_code e))
word_of-injective verb.Query verb.Upgrade e = absurd (omega (arith, ap word_code e))
word_of-injective verb.Reply verb.Install e = absurd (omega (arith, ap word_code e))
word_of-injective verb.Reply verb.Call e = absurd (omega (arith, ap word_code e))
word_of-injective verb.Reply verb.Query e = absurd (omega (arith, ap word_code e))
word_of-injective verb.Reply verb.Reply e = refl
word_of-injective verb.Reply verb.Reject e = absurd (omega (arith, ap word_code e))
word_of-injective verb.Reply verb.Upgrade e = absurd (omega (arith, ap word_code e))
word_of-injective verb.Reject verb.Install e = absurd (omega (arith, ap word_code e))
word_of-injective verb.Reject verb.Call e = absurd (omega (arith, ap word_code e))
word_of-injective verb.Reject verb.Query e = absurd (omega (arith, ap word_code e))
word_of-injective verb.Reject verb.Reply e = absurd (omega (arith, ap word_code e))
word_of-injective verb.Reject verb.Reject e = refl
word_of-injective verb.Reject verb.Upgrade e = absurd (omega (arith, ap word_code e))
word_of-injective verb.Upgrade verb.Install e = absurd (omega (arith, ap word_code e))
word_of-injective verb.Upgrade verb.Call e = absurd (omega (arith, ap word_code e))
word_of-injective verb.Upgrade verb.Query e = absurd (omega (arith, ap word_code e))
word_of-injective verb.Upgrade verb.Reply e = absurd (omega (arith, ap word_code e))
word_of-injective verb.Upgrade verb.Reject e = absurd (omega (arith, ap word_code e))
word_of-injective verb.Upgrade verb.Upgrade e = refl

-- the words behind the verb say the event of the line, and no other words do
pub said_by : (line : List ℕ) (v : Verb) (words : List (List ℕ)) (e : Event) → words_of line ≡ word_of v ∷ words → IsSaid v words e → Spells e line
said_by line v words e are s = (words, are ∙ ap (λ (u : Verb). word_of u ∷ words) (sym s.named), s.said)

pub said_of : (line : List ℕ) (v : Verb) (words : List (List ℕ)) (e : Event) → words_of line ≡ word_of v ∷ words → Spells e line → IsSaid v words e
said_of line v words e are s =
    let both : word_of v ∷ words ≡ word_of (verb_of e) ∷ s.0 = sym are ∙ s.1 in
    let heads : word_of (verb_of e) ≡ word_of v = cc in
    let rests : s.0 ≡ words = cc in
    record { named = word_of-injective (verb_of e) v heads; said = subst (λ (ws : List (List ℕ)). HasWords e ws) rests s.2 }

-- what is told of the words is told of the line
pub told_line : (line : List ℕ) (v : Verb) (words : List (List ℕ)) (modules : ℕ) (begun : Bool) (r : Result Event LineFault) → words_of line ≡ word_of v ∷ words
    → Told (IsSaid v words) modules begun r → Told (λ e. Spells e line) modules begun r
told_line line v words modules begun (Ok e) are t = (said_by line v words e are t.0, t.1)
told_line line v words modules begun (Err Bad) are t = λ e s. t e (said_of line v words e are s)
told_line line v words modules begun (Err TooLong) are t = (t.0, said_by line v words t.0 are t.1, t.2)
told_line line v words modules begun (Err NoModule) are t = (t.0, said_by line v words t.0 are t.1, t.2)
told_line line v words modules begun (Err NotInstalled) are t = (t.0, said_by line v words t.0 are t.1, t.2)
told_line line v words modules begun (Err Memory) are t = tt

-- a line whose first word is no verb says nothing
pub no_verb : (line first : List ℕ) (words : List (List ℕ)) → words_of line ≡ first ∷ words → ((v : Verb) → first ≡ word_of v → ⊥) → (e : Event) → Spells e line → ⊥
no_verb line first words are none e s =
    let both : first ∷ words ≡ word_of (verb_of e) ∷ s.0 = sym are ∙ s.1 in
    let heads : first ≡ word_of (verb_of e) = cc in
    none (verb_of e) heads
