-- Responses that were cut to fit a datagram (RFC 1035, sections 4.1.1 and 4.2.1).
use Rattle.std.specs.Prelude.{ℕ, List, Bool, ◌&&◌, nat_le, length, is_some}
use Rattle.pac_names.specs.Names.{Name}
use Rattle.dns_message.specs.Header.{header_of, is_truncated_response_to}
use Rattle.dns_message.specs.Question.{question_end}

-- the datagram is the truncated response to the question with this number and name
unfoldable pub is_truncated : List ℕ → ℕ → Name → Bool
is_truncated datagram id name =
    nat_le 12 (length datagram) && is_truncated_response_to (header_of datagram) id
    && is_some (question_end datagram name)
