-- Events and mapped Oids are read back from their numbers.
use Rattle.std.proofs.Common.{◌≡◌, ℕ, zero, true, false, suc, ◌≤◌, List, [], ◌∷◌, ◌++◌, length, drop, refl, ap, ◌∙◌, arith, length-append}
use Rattle.std.proofs.lemmas.List.{drop_at, take_all, take_at}
use Rattle.dbuf_state.specs.declared.event.CellEvent.TheVariants.{Get, Put, Patch, Pin, Unpin, Load, Evict, Synced, End}
use Rattle.dbuf_state.specs.declared.state.Mapping.{Mapping}
use Rattle.dbuf_state.specs.Numbers.{AreEventsNumbered, AreEventsRead, AreMappingsRead, mapping_numbers, mappings_in}

pub events-read : AreEventsRead
events-read (Get n at) = refl
events-read (Put n at size fill) = refl
events-read (Patch n at from bytes) = refl
events-read (Pin n at) = refl
events-read (Unpin n at) = refl
events-read (Load n at true) = refl
events-read (Load n at false) = refl
events-read (Evict n at) = refl
events-read (Synced n at ptr true) = ap (λ (d : List ℕ). Synced n at (record { key = ptr.key; digest = record { 0 = d } }) true) (take_all (length ptr.digest.0) ptr.digest.0 (omega arith))
events-read (Synced n at ptr false) = ap (λ (d : List ℕ). Synced n at (record { key = ptr.key; digest = record { 0 = d } }) false) (take_all (length ptr.digest.0) ptr.digest.0 (omega arith))
events-read (End n) = refl

mappings-back : (ms : List Mapping) (most : ℕ) → length ms ≤ most → mappings_in most (mapping_numbers ms) ≡ ms
mappings-back [] zero le = refl
mappings-back [] (suc most) le = refl
mappings-back (m ∷ ms) zero le = absurd (omega arith)
mappings-back (m ∷ ms) (suc most) le =
    ap (λ (d : List ℕ). record { at = m.at; ptr = record { key = m.ptr.key; digest = record { 0 = d } } } ∷ mappings_in most (drop (length m.ptr.digest.0) (m.ptr.digest.0 ++ mapping_numbers ms)))
    (take_at m.ptr.digest.0 (mapping_numbers ms) (length m.ptr.digest.0) refl)
    ∙ ap (λ (rest : List Mapping). m ∷ rest)
    (ap (mappings_in most) (drop_at m.ptr.digest.0 (mapping_numbers ms) (length m.ptr.digest.0) refl) ∙ mappings-back ms most (omega arith))

enough : (ms : List Mapping) → length ms ≤ length (mapping_numbers ms)
enough [] = omega arith
enough (m ∷ ms) = omega (arith, enough ms, length-append m.ptr.digest.0 (mapping_numbers ms))

pub mappings-read : AreMappingsRead
mappings-read ms = mappings-back ms (length (mapping_numbers ms)) (enough ms)

pub events-numbered : AreEventsNumbered
events-numbered (Get n at) = (_, refl)
events-numbered (Put n at size fill) = (_, refl)
events-numbered (Patch n at from bytes) = (_, refl)
events-numbered (Pin n at) = (_, refl)
events-numbered (Unpin n at) = (_, refl)
events-numbered (Load n at held) = (_, refl)
events-numbered (Evict n at) = (_, refl)
events-numbered (Synced n at ptr held) = (_, refl)
events-numbered (End n) = (_, refl)
