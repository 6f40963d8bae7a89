-- An event as numbers, and as a run of bytes; and back.
use Rattle.std.specs.Prelude.{◌≡◌, ℕ, ◌+◌, ◌*◌, ◌/◌, ◌%◌, ◌<◌, ◌^◌, ◌==◌, nat_lt, Bool, if◌then◌else◌, List, [], ◌++◌, length, replicate, Some, None}
use Rattle.blk_ptr.specs.declared.key.Key.{Key}
use Rattle.blk_ptr.specs.declared.digest.Digest.{Digest}
use Rattle.varint.specs.Number.{number_bytes, taken_bytes, taken_number}
use Rattle.arc_core.specs.declared.event.Event.{Event}
use Rattle.arc_core.specs.declared.event.Event.TheVariants.{Pass, Hit, Miss, Arrive, Fail, Drop, Past, Hand, Insert, Release, Pick, FeedEnd, Set, Leave, Clear, Restore, Resize}
use Rattle.arc_core.specs.declared.event.Origin.{Origin}
use Rattle.arc_core.specs.declared.event.Origin.TheVariants as origin
use Rattle.arc_core.specs.declared.event.FailedAt.{FailedAt}
use Rattle.arc_core.specs.declared.event.FailedAt.TheVariants as failed
use Rattle.arc_core.specs.declared.event.Why.{Why}
use Rattle.arc_core.specs.declared.event.Why.TheVariants as why
use Rattle.arc_core.specs.declared.packed.Packed.{Packed}

-- ---- numbers

abbrev pub narrow : ℕ → ℕ
narrow x = if nat_lt x (2 ^ 32) then x else 0

abbrev pub origin_number : Origin → ℕ
origin_number origin.Pool = 0
origin_number origin.L2 = 1

abbrev pub origin_of : ℕ → Origin
origin_of x = if x == 0 then origin.Pool else origin.L2

abbrev pub fault_number : FailedAt → ℕ
fault_number failed.Unread = 0
fault_number failed.Pool = 1

abbrev pub fault_of : ℕ → FailedAt
fault_of x = if x == 0 then failed.Unread else failed.Pool

abbrev pub reason_number : Why → ℕ
reason_number why.Gone = 0
reason_number why.Device = 1
reason_number why.Memory = 2

abbrev pub reason_of : ℕ → Why
reason_of x = if x == 0 then why.Gone else (if x == 1 then why.Device else why.Memory)

abbrev pub no_digest : Digest
no_digest = record { 0 = replicate 32 0 }

abbrev pub no_key : Key
no_key = record { offset = 0; size = 0; birth = 0 }

-- ---- an event as numbers

abbrev pub packed_of : Event → Packed
packed_of (Arrive n k d from) = record { kind = 0; n = n; key = k; extra = origin_number from; digest = d }
packed_of (Past n k kept) = record { kind = 1; n = n; key = k; extra = 0; digest = kept }
packed_of (Insert n k d t) = record { kind = 2; n = n; key = k; extra = t; digest = d }
packed_of (Restore n k place (Some d)) = record { kind = 3; n = n; key = k; extra = place; digest = d }
packed_of (Restore n k place None) = record { kind = 4; n = n; key = k; extra = place; digest = no_digest }
packed_of (Pass n k owner) = record { kind = 5; n = n; key = k; extra = owner; digest = no_digest }
packed_of (Hit n k t) = record { kind = 6; n = n; key = k; extra = t; digest = no_digest }
packed_of (Miss n k t) = record { kind = 7; n = n; key = k; extra = t; digest = no_digest }
packed_of (Fail n k at) = record { kind = 8; n = n; key = k; extra = fault_number at; digest = no_digest }
packed_of (Drop n k) = record { kind = 9; n = n; key = k; extra = 0; digest = no_digest }
packed_of (Hand n k to) = record { kind = 10; n = n; key = k; extra = to; digest = no_digest }
packed_of (Release n k sole) = record { kind = 11; n = n; key = k; extra = if sole then 1 else 0; digest = no_digest }
packed_of (Pick n k) = record { kind = 12; n = n; key = k; extra = 0; digest = no_digest }
packed_of (FeedEnd n) = record { kind = 13; n = n; key = no_key; extra = 0; digest = no_digest }
packed_of (Set n k place) = record { kind = 14; n = n; key = k; extra = place; digest = no_digest }
packed_of (Leave n k reason) = record { kind = 15; n = n; key = k; extra = reason_number reason; digest = no_digest }
packed_of (Clear n k) = record { kind = 16; n = n; key = k; extra = 0; digest = no_digest }
packed_of (Resize n c) = record { kind = 17; n = n; key = no_key; extra = c; digest = no_digest }

-- the event of a kind from 11 on
abbrev pub later_event : (kind n : ℕ) → Key → ℕ → Event
later_event kind n k x =
    if kind == 11 then Release n k (x == 1)
    else (if kind == 12 then Pick n k
    else (if kind == 13 then FeedEnd n
    else (if kind == 14 then Set n k x
    else (if kind == 15 then Leave n k (reason_of x)
    else (if kind == 16 then Clear n k
    else Resize n x)))))

-- the event of a kind from 4 on
abbrev pub plain_event : (kind n : ℕ) → Key → ℕ → Event
plain_event kind n k x =
    if kind == 4 then Restore n k x None
    else (if kind == 5 then Pass n k (narrow x)
    else (if kind == 6 then Hit n k x
    else (if kind == 7 then Miss n k x
    else (if kind == 8 then Fail n k (fault_of x)
    else (if kind == 9 then Drop n k
    else (if kind == 10 then Hand n k (narrow x)
    else later_event kind n k x))))))

abbrev pub event_of : Packed → Event
event_of p =
    if p.kind == 0 then Arrive (narrow p.n) p.key p.digest (origin_of p.extra)
    else (if p.kind == 1 then Past (narrow p.n) p.key p.digest
    else (if p.kind == 2 then Insert (narrow p.n) p.key p.digest p.extra
    else (if p.kind == 3 then Restore (narrow p.n) p.key p.extra (Some p.digest)
    else plain_event p.kind (narrow p.n) p.key p.extra)))

-- ---- numbers as bytes

-- A number that is mostly a multiple of 512 is kept as a small one: the sector in front, the place in it behind (the number turned by nine bits).
abbrev pub turned : ℕ → ℕ
turned x = x / 512 + (x % 512) * 2 ^ 55

abbrev pub turned_back : ℕ → ℕ
turned_back y = (y % 2 ^ 55) * 512 + y / 2 ^ 55

-- whether the events of this kind have a digest
abbrev pub has_digest : ℕ → Bool
has_digest kind = nat_lt kind 4

abbrev pub digest_bytes : Packed → List ℕ
digest_bytes p = if has_digest p.kind then p.digest.0 else []

abbrev pub packed_bytes : Packed → List ℕ
packed_bytes p =
    number_bytes p.kind ++ number_bytes p.n ++ number_bytes (turned p.key.offset) ++ number_bytes (turned p.key.size) ++ number_bytes p.key.birth ++ number_bytes p.extra ++ digest_bytes p

-- the digest that stands at the front, where the kind has one, and what is left behind it
abbrev pub taken_digest : ℕ → List ℕ → List ℕ × List ℕ
taken_digest kind xs = if has_digest kind then taken_bytes xs else (replicate 32 0, xs)

-- the numbers of the event that stands at the front, and what is left behind it
abbrev pub taken_packed : List ℕ → Packed × List ℕ
taken_packed xs =
    let kind = taken_number xs in
    let n = taken_number kind.1 in
    let offset = taken_number n.1 in
    let size = taken_number offset.1 in
    let birth = taken_number size.1 in
    let extra = taken_number birth.1 in
    let digest = taken_digest kind.0 extra.1 in (
      record {
        kind = kind.0;
        n = n.0;
        key = record { offset = turned_back offset.0; size = turned_back size.0; birth = birth.0 };
        extra = extra.0;
        digest = record { 0 = digest.0 };
      },
      digest.1,
    )

-- ---- an event as bytes

-- the numbers of an event fit, and tell it
pub record IsPackable (e : Event) : Type 0 where
  pub back : event_of (packed_of e) ≡ e
  pub n : (packed_of e).n < 2 ^ 64
  pub offset : (packed_of e).key.offset < 2 ^ 64
  pub size : (packed_of e).key.size < 2 ^ 64
  pub birth : (packed_of e).key.birth < 2 ^ 64
  pub extra : (packed_of e).extra < 2 ^ 64
  pub digest : length (packed_of e).digest.0 ≡ 32
