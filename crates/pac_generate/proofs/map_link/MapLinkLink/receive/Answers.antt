use Rattle.std.proofs.Common.{◌≡◌, ◌<◌, ◌≤◌, List, ℕ, [], ◌∷◌, ◌++◌, Some, length, refl, ap, ◌∙◌, sym, arith}
use Rattle.std.specs.Prelude.{drop, slice_get}
use Rattle.std.proofs.lemmas.Option.{slice_get_past, slice_get_read}
use Rattle.pac_ports.specs.declared.link.Move.TheVariants as move
use Rattle.pac_generate.specs.declared.limits.TheConstants.{MOST_MOVES}
use Rattle.pac_generate.proofs.LogLaws.{kept_given, kept_tick, received_reply, received_tick}
use Rattle.pac_generate.proofs.map_link.MapLinkLink.receive.Goals as goal

pub invariant_of-self : goal.invariant_of-self
invariant_of-self g c =
    let past : length c.self.inside.replies.items ≤ c.self.inside.given = omega (arith, c.self.inside.replies.ok.0, c.len-2.ensures, c.if-self-len.true) in (
      omega (arith, c.push_reserved.ensures.len, c.len.ensures, c.if-len-ge-MOST_MOVES.false),
      omega (arith, c.push_reserved.ensures.capacity, c.self.invariant.1),
      c.self.invariant.2,
      c.self.invariant.3,
      c.self.invariant.4,
      c.self.invariant.5,
      rw c.push_reserved.ensures.items (kept_tick _ _ _ _ _ c.self.invariant.6 (slice_get_past _ _ past)),
    )

pub returns-then-self-len-clause-exactly : goal.returns-then-self-len-clause-exactly
returns-then-self-len-clause-exactly g c =
    let past : length c.self.inside.replies.items ≤ c.self.inside.given = omega (arith, c.self.inside.replies.ok.0, c.len-2.ensures, c.if-self-len.true) in
    let room : length c.self.inside.log.items < MOST_MOVES = omega (arith, c.self.inside.log.ok.0, c.len.ensures, c.if-len-ge-MOST_MOVES.false) in
    received_tick _ _ _ _ _ _ _ _ _ _ _ _ c.self.view_is c.push_reserved.ensures.items room c.self.invariant.6 past

pub invariant_of-self-2 : goal.invariant_of-self-2
invariant_of-self-2 g c =
    let below : c.self.inside.given < length c.self.inside.replies.items = omega (arith, c.self.inside.replies.ok.0, c.len-2.ensures, c.if-self-len.false) in
    let due : slice_get c.self.inside.replies.items c.self.inside.given ≡ Some c.index.result.now = slice_get_read _ _ _ _ refl below c.index.ensures in (
      omega (arith, c.push_reserved-2.ensures.len, c.len.ensures, c.if-len-ge-MOST_MOVES.false),
      omega (arith, c.push_reserved-2.ensures.capacity, c.self.invariant.1),
      c.self.invariant.2,
      c.self.invariant.3,
      c.self.invariant.4,
      c.self.invariant.5,
      rw (c.push_reserved-2.ensures.items, c.new-reply.ensures, c.as_slice-octets.ensures.value) (kept_given _ _ _ _ _ _ c.self.invariant.6 due),
    )

pub returns-clause-exactly : goal.returns-clause-exactly
returns-clause-exactly g c =
    let below : c.self.inside.given < length c.self.inside.replies.items = omega (arith, c.self.inside.replies.ok.0, c.len-2.ensures, c.if-self-len.false) in
    let due : slice_get c.self.inside.replies.items c.self.inside.given ≡ Some c.index.result.now = slice_get_read _ _ _ _ refl below c.index.ensures in
    let octets : slice_get c.self.inside.replies.items c.self.inside.given ≡ Some c.as_slice-octets.result.now = due ∙ ap Some (sym c.as_slice-octets.ensures.value) in
    let room : length c.self.inside.log.items < MOST_MOVES = omega (arith, c.self.inside.log.ok.0, c.len.ensures, c.if-len-ge-MOST_MOVES.false) in
    let moves = c.push_reserved-2.ensures.items ∙ ap (λ (xs : List ℕ). c.self.inside.log.items ++ move.Given xs ∷ []) c.new-reply.ensures in
    received_reply _ _ _ _ _ _ _ _ _ _ _ _ _ _ c.self.view_is moves room c.self.invariant.6 octets
    (ap (λ (xs : List ℕ). xs ++ drop (length c.as_slice-octets.result.now) c.args.buffer.now) c.copy_from_slice.ensures.after)
