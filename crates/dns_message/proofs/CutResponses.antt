-- Truncated responses, by their header and question.
use Rattle.std.proofs.Common.{◌≡◌, ℕ, ◌<◌, ◌≤◌, Bool, true, false, not, ◌&&◌, List, length, refl, sym, ◌∙◌, ap}
use Rattle.std.specs.Prelude.{is_some}
use Rattle.std.proofs.lemmas.Bool.{and_left, and_right, and_parts, le-leb, lt-leb}
use Rattle.pac_names.specs.Names.{Name}
use Rattle.dns_message.specs.Header.{header_of, is_response_to, is_truncated_response_to}
use Rattle.dns_message.specs.Laws.{TruncatedIsNoReply}
use Rattle.dns_message.specs.Question.{question_end}
use Rattle.dns_message.specs.Truncation.{is_truncated}
use Rattle.dns_message.specs.declared.header.Header.{Header}
use Rattle.dns_message.proofs.Replies.{no_response}

pub without_header : (datagram : List ℕ) (name : Name) (id : ℕ) → length datagram < 12 → is_truncated datagram id name ≡ false
unfolding is_truncated
without_header datagram name id h =
    ap (λ (b : Bool). (b && is_truncated_response_to (header_of datagram) id) && is_some (question_end datagram name)) (lt-leb _ _ h)

pub with_header : (datagram : List ℕ) (name : Name) (id : ℕ) (h : Header) → h ≡ header_of datagram → 12 ≤ length datagram
    → is_truncated datagram id name ≡ (is_truncated_response_to h id && is_some (question_end datagram name))
unfolding is_truncated
with_header datagram name id h e long =
    ap (λ (b : Bool). (b && is_truncated_response_to (header_of datagram) id) && is_some (question_end datagram name)) (le-leb _ _ long)
    ∙ ap (λ (k : Header). is_truncated_response_to k id && is_some (question_end datagram name)) (sym e)

-- the header of a whole response has no TC
no_whole : (h : Header) (id other : ℕ) → is_truncated_response_to h id ≡ true → is_response_to h other ≡ false
no_whole h id other cut =
    let tc : h.tc ≡ true = (and_parts _ _ (and_parts _ _ cut).0).1 in
    and_left _ _ (and_left _ _ (and_right _ _ (ap not tc)))

pub no_reply : TruncatedIsNoReply
unfolding is_truncated
no_reply datagram id other name another cut =
    let header : is_truncated_response_to (header_of datagram) id ≡ true = (and_parts _ _ (and_parts _ _ cut).0).1 in
    no_response datagram another other (header_of datagram) refl (no_whole (header_of datagram) id other header)
