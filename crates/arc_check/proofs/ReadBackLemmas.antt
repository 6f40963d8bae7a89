-- The printed form of histories is read back, event by event.
use Rattle.std.proofs.Common.{◌≡◌, ℕ, ◌+◌, ◌-◌, ◌<◌, ◌≤◌, ◌^◌, Bool, true, false, List, [], ◌∷◌, ◌++◌, length, Option, Some, None, refl, ap, ◌∙◌, sym, subst, arith, append_assoc, append-nil, length-append, replicate}
use Rattle.std.specs.Prelude.{codes, decimal, IfSome}
use Rattle.std.specs.List.{AllByRecursion}
use Rattle.blk_ptr.specs.declared.digest.Digest.{Digest}
use Rattle.blk_ptr.specs.Hash.{shard_of}
use Rattle.arc_core.specs.Config.{IsConfig}
use Rattle.arc_core.specs.declared.config.Config.{Config}
use Rattle.arc_core.specs.declared.event.Event.{Event}
use Rattle.arc_core.specs.declared.event.Event.TheVariants.{Pass, Hit, Miss, Arrive, Fail, Drop, Past, Hand, Insert, Release, Pick, FeedEnd, Set, Leave, Clear, Restore, Resize}
use Rattle.arc_core.specs.declared.event.FailedAt.{FailedAt}
use Rattle.arc_core.specs.declared.event.FailedAt.TheVariants as failed
use Rattle.arc_core.specs.declared.event.Origin.{Origin}
use Rattle.arc_core.specs.declared.event.Origin.TheVariants as origins
use Rattle.arc_core.specs.declared.event.Why.{Why}
use Rattle.arc_core.specs.declared.event.Why.TheVariants as whys
use Rattle.arc_core.specs.Operations.{event_key}
use Rattle.trace_text.specs.EventText.{event_line, event_lines, failed_word, history_lines, origin_word, sole_word, spaced, told_words, why_word}
use Rattle.trace_text.specs.Grammar.{IsDigest, fields_of, lines_of, shards_of}
use Rattle.arc_check.specs.declared.words.Name.{Name}
use Rattle.arc_check.specs.declared.words.Name.TheVariants as names
use Rattle.arc_check.specs.declared.words.Line.TheVariants as line_of
use Rattle.arc_check.specs.declared.words.Made.{Made}
use Rattle.arc_check.specs.LogText.{AddToLog, AddAllToLog, AddsToLog, LogContent, IsEventOf, IsLogText, IsMade, IsNext, at_shard, event_fields, histories_to, name_of, name_text, empty_log, log_parties_of, log_spelling, with_log_line}
use Rattle.arc_check.specs.ReadBack.{AreAt, IsEventAt, IsReadBack, events_in, log_text}
use Rattle.arc_check.proofs.CleanLemmas.{Clean, clean-decimal, clean-hex, free-joined, split-append, split-first, split-joined}
use Rattle.arc_check.proofs.DraftLemmas.{at-more, at-same, close-more}
use Rattle.arc_check.proofs.PrintLemmas.{printed}
use Rattle.arc_check.proofs.SameLemmas.{key-inside, parties-few}

-- ---- an event's fields are clean

clean-origin : (a : Origin) → Clean (origin_word a)
clean-origin origins.Pool = (omega arith, (omega arith, (omega arith, (omega arith, tt))))
clean-origin origins.L2 = (omega arith, (omega arith, tt))

clean-failed : (a : FailedAt) → Clean (failed_word a)
clean-failed failed.Unread = (omega arith, (omega arith, (omega arith, (omega arith, (omega arith, (omega arith, tt))))))
clean-failed failed.Pool = (omega arith, (omega arith, (omega arith, (omega arith, tt))))

clean-sole : (a : Bool) → Clean (sole_word a)
clean-sole true = (omega arith, (omega arith, (omega arith, (omega arith, tt))))
clean-sole false = (omega arith, (omega arith, (omega arith, (omega arith, (omega arith, (omega arith, tt))))))

clean-why : (a : Why) → Clean (why_word a)
clean-why whys.Gone = (omega arith, (omega arith, (omega arith, (omega arith, tt))))
clean-why whys.Device = (omega arith, (omega arith, (omega arith, (omega arith, (omega arith, (omega arith, tt))))))
clean-why whys.Memory = (omega arith, (omega arith, (omega arith, (omega arith, (omega arith, (omega arith, tt))))))

clean-digest : (d : Digest) → IsDigest d → Clean (Rattle.hex.specs.Hex.encode_lower d.0)
clean-digest d is = clean-hex d.0 is.bytes

clean-told : (told : Option Digest) → IfSome told IsDigest → Clean (told_words told)
clean-told (Some d) is = clean-digest d is
clean-told None is = (omega arith, tt)

clean-name : (name : Name) → Clean (name_text name)
clean-name names.Pass = (omega arith, (omega arith, (omega arith, (omega arith, tt))))
clean-name names.Hit = (omega arith, (omega arith, (omega arith, tt)))
clean-name names.Miss = (omega arith, (omega arith, (omega arith, (omega arith, tt))))
clean-name names.Arrive = (omega arith, (omega arith, (omega arith, (omega arith, (omega arith, (omega arith, tt))))))
clean-name names.Fail = (omega arith, (omega arith, (omega arith, (omega arith, tt))))
clean-name names.Drop = (omega arith, (omega arith, (omega arith, (omega arith, tt))))
clean-name names.Past = (omega arith, (omega arith, (omega arith, (omega arith, tt))))
clean-name names.Hand = (omega arith, (omega arith, (omega arith, (omega arith, tt))))
clean-name names.Insert = (omega arith, (omega arith, (omega arith, (omega arith, (omega arith, (omega arith, tt))))))
clean-name names.Release = (omega arith, (omega arith, (omega arith, (omega arith, (omega arith, (omega arith, (omega arith, tt)))))))
clean-name names.Pick = (omega arith, (omega arith, (omega arith, (omega arith, tt))))
clean-name names.FeedEnd = (omega arith, (omega arith, (omega arith, (omega arith, (omega arith, (omega arith, (omega arith, tt)))))))
clean-name names.Set = (omega arith, (omega arith, (omega arith, tt)))
clean-name names.Leave = (omega arith, (omega arith, (omega arith, (omega arith, (omega arith, tt)))))
clean-name names.Clear = (omega arith, (omega arith, (omega arith, (omega arith, (omega arith, tt)))))
clean-name names.Restore = (omega arith, (omega arith, (omega arith, (omega arith, (omega arith, (omega arith, (omega arith, tt)))))))
clean-name names.Resize = (omega arith, (omega arith, (omega arith, (omega arith, (omega arith, (omega arith, tt))))))

clean-event : (parties : ℕ) → parties < 2 ^ 64 → (e : Event) → IsEventOf parties e → AllByRecursion Clean (event_fields e)
clean-event parties few (Pass n k owner) p =
    let low : n < parties = p.maker in
    let inside = key-inside k p.key in
    let l0 : owner < parties = p.told in
    (clean-decimal n (omega (arith, low, few)), (clean-decimal k.offset inside.0, (clean-decimal k.size inside.1, (clean-decimal k.birth p.key.birth, (clean-decimal owner (omega (arith, l0, few)), tt)))))
clean-event parties few (Hit n k t) p =
    let low : n < parties = p.maker in
    let inside = key-inside k p.key in
    let l0 : t ≤ 2 ^ 62 = p.told in
    (clean-decimal n (omega (arith, low, few)), (clean-decimal k.offset inside.0, (clean-decimal k.size inside.1, (clean-decimal k.birth p.key.birth, (clean-decimal t (omega (arith, l0)), tt)))))
clean-event parties few (Miss n k t) p =
    let low : n < parties = p.maker in
    let inside = key-inside k p.key in
    let l0 : t ≤ 2 ^ 62 = p.told in
    (clean-decimal n (omega (arith, low, few)), (clean-decimal k.offset inside.0, (clean-decimal k.size inside.1, (clean-decimal k.birth p.key.birth, (clean-decimal t (omega (arith, l0)), tt)))))
clean-event parties few (Arrive n k d from) p =
    let low : n < parties = p.maker in
    let inside = key-inside k p.key in
    (clean-decimal n (omega (arith, low, few)), (clean-decimal k.offset inside.0, (clean-decimal k.size inside.1, (clean-decimal k.birth p.key.birth, (clean-digest d p.told, (clean-origin from, tt))))))
clean-event parties few (Fail n k at) p =
    let low : n < parties = p.maker in
    let inside = key-inside k p.key in
    (clean-decimal n (omega (arith, low, few)), (clean-decimal k.offset inside.0, (clean-decimal k.size inside.1, (clean-decimal k.birth p.key.birth, (clean-failed at, tt)))))
clean-event parties few (Drop n k) p =
    let low : n < parties = p.maker in
    let inside = key-inside k p.key in
    (clean-decimal n (omega (arith, low, few)), (clean-decimal k.offset inside.0, (clean-decimal k.size inside.1, (clean-decimal k.birth p.key.birth, tt))))
clean-event parties few (Past n k kept) p =
    let low : n < parties = p.maker in
    let inside = key-inside k p.key in
    (clean-decimal n (omega (arith, low, few)), (clean-decimal k.offset inside.0, (clean-decimal k.size inside.1, (clean-decimal k.birth p.key.birth, (clean-digest kept p.told, tt)))))
clean-event parties few (Hand n k to) p =
    let low : n < parties = p.maker in
    let inside = key-inside k p.key in
    let l0 : to < parties = p.told in
    (clean-decimal n (omega (arith, low, few)), (clean-decimal k.offset inside.0, (clean-decimal k.size inside.1, (clean-decimal k.birth p.key.birth, (clean-decimal to (omega (arith, l0, few)), tt)))))
clean-event parties few (Insert n k d t) p =
    let low : n < parties = p.maker in
    let inside = key-inside k p.key in
    let l1 : t ≤ 2 ^ 62 = p.told.1 in
    (clean-decimal n (omega (arith, low, few)), (clean-decimal k.offset inside.0, (clean-decimal k.size inside.1, (clean-decimal k.birth p.key.birth, (clean-digest d p.told.0, (clean-decimal t (omega (arith, l1)), tt))))))
clean-event parties few (Release n k sole) p =
    let low : n < parties = p.maker in
    let inside = key-inside k p.key in
    (clean-decimal n (omega (arith, low, few)), (clean-decimal k.offset inside.0, (clean-decimal k.size inside.1, (clean-decimal k.birth p.key.birth, (clean-sole sole, tt)))))
clean-event parties few (Pick n k) p =
    let low : n < parties = p.maker in
    let inside = key-inside k p.key in
    (clean-decimal n (omega (arith, low, few)), (clean-decimal k.offset inside.0, (clean-decimal k.size inside.1, (clean-decimal k.birth p.key.birth, tt))))
clean-event parties few (FeedEnd n) p =
    let low : n < parties = p.maker in
    (clean-decimal n (omega (arith, low, few)), tt)
clean-event parties few (Set n k place) p =
    let low : n < parties = p.maker in
    let inside = key-inside k p.key in
    let l0 : place ≤ 2 ^ 62 = p.told in
    (clean-decimal n (omega (arith, low, few)), (clean-decimal k.offset inside.0, (clean-decimal k.size inside.1, (clean-decimal k.birth p.key.birth, (clean-decimal place (omega (arith, l0)), tt)))))
clean-event parties few (Leave n k why) p =
    let low : n < parties = p.maker in
    let inside = key-inside k p.key in
    (clean-decimal n (omega (arith, low, few)), (clean-decimal k.offset inside.0, (clean-decimal k.size inside.1, (clean-decimal k.birth p.key.birth, (clean-why why, tt)))))
clean-event parties few (Clear n k) p =
    let low : n < parties = p.maker in
    let inside = key-inside k p.key in
    (clean-decimal n (omega (arith, low, few)), (clean-decimal k.offset inside.0, (clean-decimal k.size inside.1, (clean-decimal k.birth p.key.birth, tt))))
clean-event parties few (Restore n k place told) p =
    let low : n < parties = p.maker in
    let inside = key-inside k p.key in
    let l0 : place ≤ 2 ^ 62 = p.told.0 in
    (clean-decimal n (omega (arith, low, few)), (clean-decimal k.offset inside.0, (clean-decimal k.size inside.1, (clean-decimal k.birth p.key.birth, (clean-decimal place (omega (arith, l0)), (clean-told told p.told.1, tt))))))
clean-event parties few (Resize n c) p =
    let low : n < parties = p.maker in
    let l0 : c ≤ 2 ^ 62 = p.told in
    (clean-decimal n (omega (arith, low, few)), (clean-decimal c (omega (arith, l0)), tt))

-- ---- the line of an event

abbrev made_of : ℕ → ℕ → Event → Made
made_of shard index e = record { shard = shard; index = index; event = e }

-- the line without its newline
abbrev line_text : ℕ → ℕ → Event → List ℕ
line_text shard index e = spaced (log_spelling (line_of.Made (made_of shard index e)))

clean-line : (z : Config) → IsConfig z → (shard index : ℕ) (e : Event) → shard < 2 ^ 64 → index < 2 ^ 64 → IsEventOf (log_parties_of z) e
    → AllByRecursion Clean (decimal shard ∷ decimal index ∷ name_text (name_of e) ∷ event_fields e)
clean-line z is shard index e low small ranged =
    (clean-decimal shard low, (clean-decimal index small, (clean-name (name_of e), clean-event (log_parties_of z) (parties-few z is) e ranged)))

clean-e : Clean (codes "e")
clean-e = (omega arith, tt)

-- the lines of a text that begins with it
line-first : (z : Config) → IsConfig z → (shard index : ℕ) (e : Event) (rest : List ℕ) → shard < 2 ^ 64 → index < 2 ^ 64 → IsEventOf (log_parties_of z) e
    → lines_of (event_line shard index e ++ rest) ≡ line_text shard index e ∷ lines_of rest
line-first z is shard index e rest low small ranged =
    ap (λ (t : List ℕ). lines_of (t ++ rest)) (printed shard index e)
    ∙ ap lines_of (append_assoc (line_text shard index e) (10 ∷ []) rest)
    ∙ split-first 10 (line_text shard index e) rest (free-joined (codes "e") (decimal shard ∷ decimal index ∷ name_text (name_of e) ∷ event_fields e) clean-e (clean-line z is shard index e low small ranged))

-- what it adds
pub line-adds : (z : Config) → IsConfig z → (shard : ℕ) (e : Event) (before : LogContent) → before.config ≡ Some z → length before.closed ≤ shard → shard < z.shards
    → IsEventAt z shard e → before.count < 1000000 → length (at_shard shard before).events ≤ 1000000
    → AddsToLog before (line_text shard (length (at_shard shard before).events) e) (with_log_line before (line_of.Made (made_of shard (length (at_shard shard before).events) e)))
line-adds z is shard e before known past low at room few =
    let index : ℕ = length (at_shard shard before).events in
    let made : Made = made_of shard index e in
    let fields : fields_of (line_text shard index e) ≡ log_spelling (line_of.Made made) =
    split-joined (codes "e") (decimal shard ∷ decimal index ∷ name_text (name_of e) ∷ event_fields e) clean-e (clean-line z is shard index e (omega (arith, low, is.counts.shards.1)) (omega (arith, few)) at.ranged) in
    let inside : IsMade z made = record { shard = low; index = omega (arith, few); event = at.ranged } in
    let there : Rattle.arc_check.specs.LogText.IsInLogRange before.config (line_of.Made made) = subst (λ (o : Option Config). Rattle.arc_check.specs.LogText.IsInLogRange o (line_of.Made made)) (sym known) inside in
    let key : IfSome (event_key e) (λ k. shard_of (shards_of before.config) k ≡ shard) =
    subst (λ (o : Option Config). IfSome (event_key e) (λ k. shard_of (shards_of o) k ≡ shard)) (sym known) at.key in
    record {
      line = line_of.Made made;
      said = record { spelled = fields; ranged = there };
      ordered = record { shard = past; index = refl; key = key };
      room = room;
      added = refl;
    }

-- ---- the events of a shard

-- a content with these events behind the others
abbrev with_events : List Event → LogContent → LogContent
with_events es said = record said { events = said.events ++ es; count = said.count + length es }

-- the line of an event, and others
event-lead : (z : Config) → IsConfig z → (shard : ℕ) (e : Event) (es : List Event) (said base : LogContent) (i : ℕ) (rest : List ℕ) (after : LogContent)
    → at_shard shard said ≡ base → said.config ≡ Some z → base.count ≡ said.count → length said.closed ≤ shard
    → length base.events ≡ i → i ≤ base.count → shard < z.shards → IsEventAt z shard e → base.count + 1 ≤ 1000000
    → AddAllToLog (with_events (e ∷ []) base) (lines_of (event_lines shard (i + 1) es ++ rest)) after → AddAllToLog said (lines_of (event_lines shard i (e ∷ es) ++ rest)) after
event-lead z is shard e es said base i rest after here known counted past index small low at few tail =
    let size : length (at_shard shard said).events ≡ length base.events = ap (λ (c : LogContent). length c.events) here in
    let adds_here = line-adds z is shard e said known past low at (omega (arith, counted, few)) (omega (arith, size, index, small, few)) in
    let adds_base : AddsToLog said (line_text shard (length base.events) e) (with_events (e ∷ []) base) =
    subst (λ (c : LogContent). AddsToLog said (line_text shard (length c.events) e) (with_events (e ∷ []) c)) here adds_here in
    let adds : AddsToLog said (line_text shard i e) (with_events (e ∷ []) base) = subst (λ (n : ℕ). AddsToLog said (line_text shard n e) (with_events (e ∷ []) base)) index adds_base in
    let whole : lines_of (event_lines shard i (e ∷ es) ++ rest) ≡ line_text shard i e ∷ lines_of (event_lines shard (i + 1) es ++ rest) =
    ap lines_of (append_assoc (event_line shard i e) (event_lines shard (i + 1) es) rest)
    ∙ line-first z is shard i e (event_lines shard (i + 1) es ++ rest) (omega (arith, low, is.counts.shards.1)) (omega (arith, small, few)) at.ranged in
    subst (λ (ls : List (List ℕ)). AddAllToLog said ls after) (sym whole) (with_events (e ∷ []) base, adds, tail)

-- the lines of the events of a shard, and others
events-lead : (z : Config) → IsConfig z → (shard : ℕ) (e : Event) (es : List Event) (said base : LogContent) (i : ℕ) (rest : List ℕ) (after : LogContent)
    → at_shard shard said ≡ base → said.config ≡ Some z → base.config ≡ Some z → base.count ≡ said.count → length said.closed ≤ shard → length base.closed ≡ shard
    → length base.events ≡ i → i ≤ base.count → shard < z.shards → IsEventAt z shard e → AllByRecursion (IsEventAt z shard) es → base.count + length (e ∷ es) ≤ 1000000
    → AddAllToLog (with_events (e ∷ es) base) (lines_of rest) after → AddAllToLog said (lines_of (event_lines shard i (e ∷ es) ++ rest)) after
events-lead z is shard e [] said base i rest after here known known_base counted past size index small low at all few leads =
    event-lead z is shard e [] said base i rest after here known counted past index small low at (omega (arith, few)) leads
events-lead z is shard e (f ∷ fs) said base i rest after here known known_base counted past size index small low at all few leads =
    let mid : LogContent = with_events (e ∷ []) base in
    let longer : length mid.events ≡ i + 1 = omega (arith, length-append base.events (e ∷ []), index) in
    let joined : with_events (f ∷ fs) mid ≡ with_events (e ∷ f ∷ fs) base =
    let events = append_assoc base.events (e ∷ []) (f ∷ fs) in
    let count : (base.count + 1) + length (f ∷ fs) ≡ base.count + length (e ∷ f ∷ fs) = omega arith in
    λ k. record base { events = events k; count = count k } in
    event-lead z is shard e (f ∷ fs) said base i rest after here known counted past index small low at (omega (arith, few))
    (events-lead z is shard f fs mid mid (i + 1) rest after (at-same shard mid (sym size)) known_base known_base refl (omega (arith, size)) size longer (omega (arith, small)) low all.0 all.1
    (omega (arith, few)) (subst (λ (c : LogContent). AddAllToLog c (lines_of rest) after) (sym joined) leads))

-- ---- the shards

-- these are the histories up to this shard, none of whose events is said yet
record Reached (z : Config) (shard : ℕ) (front : List (List Event)) (said : LogContent) : Type 0 where
  known : said.config ≡ Some z
  at : at_shard shard said ≡ record said { closed = front; events = [] }
  past : length said.closed ≤ shard
  size : length front ≡ shard
  next : histories_to (shard + 1) said ≡ front ++ [] ∷ []
  here : 0 < shard → histories_to shard said ≡ front

reached-next : (z : Config) (shard : ℕ) (front : List (List Event)) (said : LogContent) → said.config ≡ Some z → length said.closed ≤ shard → length front ≡ shard + 1
    → histories_to (shard + 1) said ≡ front → Reached z (shard + 1) front said
reached-next z shard front said known past size is =
    let last : front ++ [] ∷ [] ≡ histories_to (shard + 1 + 1) said =
    close-more said.closed said.events (histories_to (shard + 1) said) (front ++ [] ∷ []) (shard + 1) (shard + 1 + 1) refl (ap (λ (hs : List (List Event)). hs ++ [] ∷ []) (sym is)) (omega (arith, past)) refl in
    record {
      known = known;
      at = at-more (shard + 1) said (omega (arith, past)) ∙ ap (λ (hs : List (List Event)). record said { closed = hs; events = [] }) is;
      past = omega (arith, past);
      size = size;
      next = sym last;
      here = λ some. is;
    }

record Led (z : Config) (shards : ℕ) (all : List (List Event)) (said : LogContent) (lines : List (List ℕ)) : Type 0 where
  after : LogContent
  leads : AddAllToLog said lines after
  known : after.config ≡ Some z
  histories : 0 < shards → histories_to shards after ≡ all

histories-lead : (z : Config) → IsConfig z → (hs front : List (List Event)) (shard : ℕ) (said : LogContent) → Reached z shard front said → shard + length hs ≤ z.shards
    → AreAt z shard hs → said.count + events_in hs ≤ 1000000 → Led z (shard + length hs) (front ++ hs) said (lines_of (history_lines shard hs))
histories-lead z is [] front shard said reached low at few = record {
  after = said;
  leads = (said, refl, refl);
  known = reached.known;
  histories = λ some. (let none : shard + 0 ≡ shard = omega arith in ap (λ n. histories_to n said) none) ∙ reached.here (omega (arith, some)) ∙ sym (append-nil front);
}
histories-lead z is ([] ∷ hs) front shard said reached low at few =
    let longer : length (front ++ [] ∷ []) ≡ shard + 1 = omega (arith, length-append front ([] ∷ []), reached.size) in
    let rest = histories-lead z is hs (front ++ [] ∷ []) (shard + 1) said (reached-next z shard (front ++ [] ∷ []) said reached.known reached.past longer reached.next) (omega (arith, low)) at.1 (omega (arith, few)) in
    let count : shard + 1 + length hs ≡ shard + length ([] ∷ hs) = omega arith in
    record {
      after = rest.after;
      leads = rest.leads;
      known = rest.known;
      histories = λ some. ap (λ n. histories_to n rest.after) (sym count) ∙ rest.histories (omega (arith, some, count)) ∙ append_assoc front ([] ∷ []) hs;
    }
histories-lead z is ((e ∷ es) ∷ hs) front shard said reached low at few =
    let base : LogContent = record said { closed = front; events = [] } in
    let now : LogContent = with_events (e ∷ es) base in
    let longer : length (front ++ (e ∷ es) ∷ []) ≡ shard + 1 = omega (arith, length-append front ((e ∷ es) ∷ []), reached.size) in
    let none : shard + 1 - (length front + 1) ≡ 0 = omega (arith, reached.size) in
    let closed : histories_to (shard + 1) now ≡ front ++ (e ∷ es) ∷ [] = ap (λ n. front ++ (e ∷ es) ∷ replicate n []) none in
    let rest = histories-lead z is hs (front ++ (e ∷ es) ∷ []) (shard + 1) now (reached-next z shard (front ++ (e ∷ es) ∷ []) now reached.known (omega (arith, reached.size)) longer closed)
    (omega (arith, low)) at.1 (omega (arith, few)) in
    let count : shard + 1 + length hs ≡ shard + length ((e ∷ es) ∷ hs) = omega arith in
    record {
      after = rest.after;
      leads = events-lead z is shard e es said base 0 (history_lines (shard + 1) hs) rest.after reached.at reached.known reached.known refl reached.past reached.size refl (omega arith)
          (omega (arith, low)) at.0.0 at.0.1 (omega (arith, few)) rest.leads;
      known = rest.known;
      histories = λ some. ap (λ n. histories_to n rest.after) (sym count) ∙ rest.histories (omega (arith, some, count)) ∙ append_assoc front ((e ∷ es) ∷ []) hs;
    }

-- ---- the whole text

AddAll-join : (front back : List (List ℕ)) (before mid after : LogContent) → AddAllToLog before front mid → AddAllToLog mid back after → AddAllToLog before (front ++ back) after
AddAll-join [] back before mid after a b = subst (λ (c : LogContent). AddAllToLog c back after) a b
AddAll-join (line ∷ front) back before mid after a b = (a.0, a.1, AddAll-join front back a.0 mid after a.2 b)

reached-first : (z : Config) (said : LogContent) → said.config ≡ Some z → said.closed ≡ [] → said.events ≡ [] → Reached z 0 [] said
reached-first z said known closed events =
    let size : length said.closed ≡ 0 = ap (λ (hs : List (List Event)). length hs) closed in
    let pair : (List (List Event) × List Event) → List (List Event) = λ p. p.0 ++ p.1 ∷ replicate (1 - (length p.0 + 1)) [] in
    record {
      known = known;
      at = at-same 0 said (sym size) ∙ (λ k. record said { closed = closed k; events = events k });
      past = omega (arith, size);
      size = refl;
      next = ap pair (λ k. (closed k, events k));
      here = λ some. absurd (omega arith);
    }

pub read-back : IsReadBack
read-back head z histories start is shards at few short =
    let led = histories-lead z is histories [] 0 start.content (reached-first z start.content start.sized start.closed start.events) (omega (arith, shards)) at (omega (arith, few, start.count)) in
    let split = split-append 10 head (history_lines 0 histories) in
    let all : AddAllToLog empty_log (lines_of (log_text head histories)) led.after =
    subst (λ (ls : List (List ℕ)). AddAllToLog empty_log ls led.after) (sym split) (AddAll-join (lines_of head) (lines_of (history_lines 0 histories)) empty_log start.content led.after start.lines led.leads) in
    let said : histories_to z.shards led.after ≡ histories = (let count : z.shards ≡ 0 + length histories = omega (arith, shards) in ap (λ n. histories_to n led.after) count) ∙ led.histories (omega (arith, shards, is.counts.shards.0)) in
    record { short = short; content = led.after; lines = all; said = record { config = led.known; histories = sym said } }
