-- What a stub sends again at an event is what falls due.
use Rattle.std.proofs.Common.{◌≡◌, ◌+◌, Bool, true, false, cond, ◌&&◌, List, [], ◌∷◌, ◌++◌, Option, None, is_none, option_map, refl, sym, ◌∙◌, ap, subst, append_assoc, nat_lt}
use Rattle.std.specs.List.{cons_option, filter_map}
use Rattle.poll_log.specs.declared.question.Question.{Question}
use Rattle.poll_log.specs.declared.sending.Sending.{Sending}
use Rattle.poll_log.specs.declared.terms.Terms.{Terms}
use Rattle.poll_log.specs.Turns.{Turns, Then, Event}
use Rattle.poll_log.specs.Beats.{is_beat}
use Rattle.poll_log.specs.Questions.{has_name, numbered_sending}
use Rattle.poll_log.specs.Sendings.{limit, sending_at}
use Rattle.poll_log.specs.Told.{Map, age, told}
use Rattle.poll_log.specs.Moment.{older, sent_again}
use Rattle.poll_log.proofs.Counts.{seen_here}
use Rattle.poll_log.proofs.TurnLaws.{falls_due}
use Rattle.stub_poller.specs.State.{StubState, resent}
use Rattle.stub_poller.specs.Shows.{Shows}
use Rattle.stub_poller.proofs.Showing.{older_age, resent_shows}

-- what is sent again where the event is a beat, and where it is none
abbrev pub again_if : Bool → StubState → List Sending
again_if true stub = resent stub
again_if false stub = []

-- what gives the same of each question gives the same of all
pub filter_map_alike : (f g : Question → Option Sending) (pre G : List Question) → ((q : Question) → has_name q.name (pre ++ G) ≡ true → f q ≡ g q) → filter_map f G ≡ filter_map g G
filter_map_alike f g pre [] h = refl
filter_map_alike f g pre (q ∷ G) h =
    ap (λ r. cons_option r (filter_map f G)) (h q (seen_here pre q G))
    ∙ ap (cons_option (g q)) (filter_map_alike f g (pre ++ q ∷ []) G (λ x k. h x (subst (λ l. has_name x.name l ≡ true) (append_assoc pre (q ∷ []) G) k)))

abbrev nothing : Question → Option Sending
nothing q = None

none_at_all : (G : List Question) → filter_map nothing G ≡ []
none_at_all [] = refl
none_at_all (q ∷ G) = none_at_all G

-- a stub that shows what is told with the event, and the ages before it
pub again_falls : (t : Terms) (h : Turns) (e : Event) (F : List Question) (stub : StubState) → stub.terms ≡ t → Shows stub (told t (Then h e [])) (age h) F → (b : Bool) → is_beat h e ≡ b → again_if b stub ≡ filter_map (falls_due t h e) F
again_falls t h e F stub same s true k =
    resent_shows stub M (age h) F s
    ∙ ap (λ x. filter_map (sent_again x M (older F (age h))) F) same
    ∙ filter_map_alike (sent_again t M (older F (age h))) (falls_due t h e) [] F due
  where
    M : Map
    M = told t (Then h e [])

    due : (q : Question) → has_name q.name F ≡ true → sent_again t M (older F (age h)) q ≡ falls_due t h e q
    due q seen =
        ap (λ x. cond (is_none (M q.name) && nat_lt x (limit t)) (option_map (numbered_sending q) (sending_at t x)) None) (older_age F (age h) q.name seen)
        ∙ ap (λ c. cond c (sent_again t M (λ m. age h m + 1) q) None) (sym k)
again_falls t h e F stub same s false k =
    sym (filter_map_alike (falls_due t h e) nothing [] F (λ q seen. ap (λ c. cond c (sent_again t (told t (Then h e [])) (λ m. age h m + 1) q) None) k) ∙ none_at_all F)
