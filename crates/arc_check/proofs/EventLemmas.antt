-- Events by their names: what their fields are, and that a name has one spelling.
use Rattle.std.proofs.Common.{◌≡◌, ℕ, ◌<◌, eqb, Bool, true, false, List, [], ◌∷◌, ◌++◌, length, Option, Some, None, refl, ap, ◌∙◌, sym, subst, cond, arith, length-append}
use Rattle.std.specs.Prelude.{decimal, IfSome}
use Rattle.blk_ptr.specs.declared.key.Key.{Key}
use Rattle.arc_core.specs.declared.event.Event.{Event}
use Rattle.arc_core.specs.declared.event.Event.TheVariants.{Pass, Hit, Miss, Arrive, Fail, Drop, Past, Hand, Insert, Release, Pick, FeedEnd, Set, Leave, Clear, Restore, Resize}
use Rattle.arc_core.specs.Operations.{event_key, number_of}
use Rattle.trace_text.specs.Grammar.{IsPlain}
use Rattle.arc_check.specs.declared.words.Name.{Name}
use Rattle.arc_check.specs.declared.words.Name.TheVariants as names
use Rattle.arc_check.specs.LogText.{IsEventOf, IsLogKey, IsTold, event_fields, log_field_count, key_and, name_of, name_text, told_fields}
use Rattle.arc_check.specs.Reading.{IsEventRead, IsTailRead, TailOf}
use Rattle.arc_check.proofs.FieldLemmas.{next-fields}

-- ---- names

-- whether two texts are one
abbrev same_text : List ℕ → List ℕ → Bool
same_text [] [] = true
same_text [] (b ∷ other) = false
same_text (a ∷ text) [] = false
same_text (a ∷ text) (b ∷ other) = cond (eqb a b) (same_text text other) false

-- the first of these names that is spelled so
abbrev spelled_in : List Name → List ℕ → Option Name
spelled_in [] text = None
spelled_in (name ∷ others) text = cond (same_text (name_text name) text) (Some name) (spelled_in others text)

abbrev all_names : List Name
all_names = names.Pass ∷ names.Hit ∷ names.Miss ∷ names.Arrive ∷ names.Fail ∷ names.Drop ∷ names.Past ∷ names.Hand ∷ names.Insert
    ∷ names.Release ∷ names.Pick ∷ names.FeedEnd ∷ names.Set ∷ names.Leave ∷ names.Clear ∷ names.Restore ∷ names.Resize ∷ []

spelled_in-text : (name : Name) → spelled_in all_names (name_text name) ≡ Some name
spelled_in-text names.Pass = refl
spelled_in-text names.Hit = refl
spelled_in-text names.Miss = refl
spelled_in-text names.Arrive = refl
spelled_in-text names.Fail = refl
spelled_in-text names.Drop = refl
spelled_in-text names.Past = refl
spelled_in-text names.Hand = refl
spelled_in-text names.Insert = refl
spelled_in-text names.Release = refl
spelled_in-text names.Pick = refl
spelled_in-text names.FeedEnd = refl
spelled_in-text names.Set = refl
spelled_in-text names.Leave = refl
spelled_in-text names.Clear = refl
spelled_in-text names.Restore = refl
spelled_in-text names.Resize = refl

-- two names with one spelling are one
pub name_text-injective : (v w : Name) → name_text v ≡ name_text w → v ≡ w
name_text-injective v w e =
    let both : Some v ≡ Some w = sym (spelled_in-text v) ∙ ap (spelled_in all_names) e ∙ spelled_in-text w in
    cc

-- ---- fields

-- how many fields an event has
pub fields-counted : (e : Event) → length (event_fields e) ≡ log_field_count (name_of e)
fields-counted (Pass n k owner) = refl
fields-counted (Hit n k t) = refl
fields-counted (Miss n k t) = refl
fields-counted (Arrive n k d from) = refl
fields-counted (Fail n k at) = refl
fields-counted (Drop n k) = refl
fields-counted (Past n k kept) = refl
fields-counted (Hand n k to) = refl
fields-counted (Insert n k d t) = refl
fields-counted (Release n k sole) = refl
fields-counted (Pick n k) = refl
fields-counted (FeedEnd n) = refl
fields-counted (Set n k place) = refl
fields-counted (Leave n k why) = refl
fields-counted (Clear n k) = refl
fields-counted (Restore n k place told) = refl
fields-counted (Resize n c) = refl

-- fields that are those of two events of one name have the same rest
pub rest-counted : (e f : Event) (fields more less : List (List ℕ)) → name_of e ≡ name_of f → fields ≡ event_fields e ++ more → fields ≡ event_fields f ++ less → length more ≡ length less
rest-counted e f fields more less named one other =
    omega (
      arith,
      ap (λ (xs : List (List ℕ)). length xs) one,
      ap (λ (xs : List (List ℕ)). length xs) other,
      length-append (event_fields e) more,
      length-append (event_fields f) less,
      fields-counted e,
      fields-counted f,
      ap log_field_count named,
    )

-- what an event tells, by its name
told-of : (parties : ℕ) (e : Event) (rest : List (List ℕ)) → IsTold parties e → TailOf parties (name_of e) (told_fields e ++ rest) rest
told-of parties (Pass n k owner) rest told = (owner, told, refl)
told-of parties (Hit n k t) rest told = (t, told, refl)
told-of parties (Miss n k t) rest told = (t, told, refl)
told-of parties (Arrive n k d from) rest told = (d, from, told, refl)
told-of parties (Fail n k at) rest told = (at, refl)
told-of parties (Drop n k) rest told = refl
told-of parties (Past n k kept) rest told = (kept, told, refl)
told-of parties (Hand n k to) rest told = (to, told, refl)
told-of parties (Insert n k d t) rest told = (d, t, told.0, told.1, refl)
told-of parties (Release n k sole) rest told = (sole, refl)
told-of parties (Pick n k) rest told = refl
told-of parties (FeedEnd n) rest told = refl
told-of parties (Set n k place) rest told = (place, told, refl)
told-of parties (Leave n k why) rest told = (why, refl)
told-of parties (Clear n k) rest told = refl
told-of parties (Restore n k place d) rest told = (place, d, told.0, told.1, refl)
told-of parties (Resize n c) rest told = (c, told, refl)

pub tail-of : (parties : ℕ) (name : Name) (e : Event) (fields rest : List (List ℕ)) → name_of e ≡ name → IsTold parties e → fields ≡ told_fields e ++ rest → TailOf parties name fields rest
tail-of parties name e fields rest named told is =
    subst (λ (f : List (List ℕ)). TailOf parties name f rest) (sym is) (subst (λ (m : Name). TailOf parties m (told_fields e ++ rest) rest) named (told-of parties e rest told))

-- an event of another name than these two has a key
pub has-key : (e : Event) → (name_of e ≡ names.FeedEnd → ⊥) → (name_of e ≡ names.Resize → ⊥) → (key : Key) × (event_key e ≡ Some key)
has-key (Pass n k owner) end size = (k, refl)
has-key (Hit n k t) end size = (k, refl)
has-key (Miss n k t) end size = (k, refl)
has-key (Arrive n k d from) end size = (k, refl)
has-key (Fail n k at) end size = (k, refl)
has-key (Drop n k) end size = (k, refl)
has-key (Past n k kept) end size = (k, refl)
has-key (Hand n k to) end size = (k, refl)
has-key (Insert n k d t) end size = (k, refl)
has-key (Release n k sole) end size = (k, refl)
has-key (Pick n k) end size = (k, refl)
has-key (FeedEnd n) end size = absurd (end refl)
has-key (Set n k place) end size = (k, refl)
has-key (Leave n k why) end size = (k, refl)
has-key (Clear n k) end size = (k, refl)
has-key (Restore n k place told) end size = (k, refl)
has-key (Resize n c) end size = absurd (size refl)

-- the key that is resized for: none
abbrev keyless : Name → Event → Type 0
keyless names.Resize e = event_key e ≡ None
keyless _ e = Unit {0}

keyless-of : (e : Event) → keyless (name_of e) e
keyless-of (Resize n c) = refl
keyless-of (Pass n k owner) = tt
keyless-of (Hit n k t) = tt
keyless-of (Miss n k t) = tt
keyless-of (Arrive n k d from) = tt
keyless-of (Fail n k at) = tt
keyless-of (Drop n k) = tt
keyless-of (Past n k kept) = tt
keyless-of (Hand n k to) = tt
keyless-of (Insert n k d t) = tt
keyless-of (Release n k sole) = tt
keyless-of (Pick n k) = tt
keyless-of (FeedEnd n) = tt
keyless-of (Set n k place) = tt
keyless-of (Leave n k why) = tt
keyless-of (Clear n k) = tt
keyless-of (Restore n k place told) = tt

-- the fields behind who made a resize
pub resize-fields : (parties n : ℕ) (e : Event) (fields mid rest : List (List ℕ)) → name_of e ≡ names.Resize → IsEventOf parties e → fields ≡ decimal n ∷ mid → fields ≡ event_fields e ++ rest
    → (c : ℕ) × IsPlain c × (mid ≡ decimal c ∷ rest)
resize-fields parties n e fields mid rest named ranged one other =
    let no : event_key e ≡ None = subst (λ (m : Name). keyless m e) named (keyless-of e) in
    let tail : mid ≡ key_and (event_key e) (told_fields e) ++ rest = next-fields one other in
    let plain : mid ≡ told_fields e ++ rest = tail ∙ ap (λ (o : Option Key). key_and o (told_fields e) ++ rest) no in
    tail-of parties names.Resize e mid rest named ranged.told plain

-- the fields behind who made an event with a key
pub key-fields : (n : ℕ) (e : Event) (key : Key) (fields mid rest : List (List ℕ)) → event_key e ≡ Some key → fields ≡ decimal n ∷ mid → fields ≡ event_fields e ++ rest
    → mid ≡ decimal key.offset ∷ decimal key.size ∷ decimal key.birth ∷ (told_fields e ++ rest)
key-fields n e key fields mid rest keyed one other =
    let tail : mid ≡ key_and (event_key e) (told_fields e) ++ rest = next-fields one other in
    tail ∙ ap (λ (o : Option Key). key_and o (told_fields e) ++ rest) keyed

-- the key of an event is in its range
pub key-ranged : (parties : ℕ) (e : Event) (key : Key) → IsEventOf parties e → event_key e ≡ Some key → IsLogKey key
key-ranged parties e key ranged keyed = subst (λ (o : Option Key). IfSome o IsLogKey) keyed ranged.key

-- what comes after three fields
third-rest : {fields rest others : List (List ℕ)} {a b c d e f : List ℕ} → fields ≡ a ∷ b ∷ c ∷ rest → fields ≡ d ∷ e ∷ f ∷ others → rest ≡ others
third-rest p q = let joined = sym p ∙ q in cc

-- an event, from what comes after its key
pub tail-read : (parties : ℕ) (name : Name) (n : ℕ) (key : Key) (old mid back new : List (List ℕ)) (r : Option Event) → n < parties → IsLogKey key
    → (name ≡ names.FeedEnd → ⊥) → (name ≡ names.Resize → ⊥) → old ≡ decimal n ∷ mid → mid ≡ decimal key.offset ∷ decimal key.size ∷ decimal key.birth ∷ back
    → IsTailRead parties name n key back new r → IsEventRead parties name old new r
tail-read parties name n key old mid back new (Some e) low valid end size one two read =
    let maker : number_of e ≡ n = read.1 in
    let keyed : event_key e ≡ Some key = read.2 in
    let fields : (ℕ × Option Key) → List (List ℕ) = λ p. decimal p.0 ∷ (key_and p.1 (told_fields e) ++ new) in
    let whole : old ≡ fields (n, Some key) = one ∙ ap (λ (f : List (List ℕ)). decimal n ∷ f) (two ∙ ap (λ (f : List (List ℕ)). decimal key.offset ∷ decimal key.size ∷ decimal key.birth ∷ f) read.4) in
    let same : fields (n, Some key) ≡ fields (number_of e, event_key e) = ap fields (λ i. (sym maker i, sym keyed i)) in (
      read.0,
      record { maker = subst (λ m. m < parties) (sym maker) low; key = subst (λ (o : Option Key). IfSome o IsLogKey) (sym keyed) valid; told = read.3 },
      whole ∙ same,
    )
tail-read parties name n key old mid back new None low valid end size one two read = λ e rest named ranged is.
    let k = has-key e (λ p. end (sym named ∙ p)) (λ p. size (sym named ∙ p)) in
    let behind = key-fields n e k.0 old mid rest k.1 one is in
    read rest (tail-of parties name e back rest named ranged.told (third-rest two behind))
