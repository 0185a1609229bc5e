-- Records one after the other.
use Rattle.std.proofs.Common.{◌≡◌, ℕ, suc, ◌+◌, ◌<◌, ◌≤◌, Bool, true, false, cond, leb, List, ◌∷◌, length, Option, Some, None, refl, sym, ◌∙◌, ap, subst, arith}
use Rattle.std.specs.Prelude.{IsSome, IfSome, is_some}
use Rattle.std.proofs.lemmas.Bool.{leb-true, le-leb, lt-leb, false≢true}
use Rattle.pac_names.specs.declared.kind.NameKind.{NameKind}
use Rattle.dns_name.specs.Wire.{WireName, name_at, labels_at, lowered, lowered_of, behind_of, is_same_name, are_labels, are_same, same_labels}
use Rattle.dns_message.specs.Numbers.{number_at}
use Rattle.dns_message.specs.Record.{Fact, Says, RecordThere, record_at, record_from, facts_at, facts_behind, onto_facts, says_of, there}
use Rattle.dns_message.specs.Seen.{facts_known, IsThere, labels_known, name_there}

-- one record less
pub facts_more : (kind : NameKind) (n k : ℕ) (message : List ℕ) (at : ℕ) (r : RecordThere) → n ≡ suc k → record_at kind message at ≡ Some r
    → facts_at kind n message at ≡ onto_facts r.fact (facts_at kind k message r.behind)
unfolding facts_at
facts_more kind n k message at r e h = ap (λ (j : ℕ). facts_at kind j message at) e ∙ ap (facts_behind (facts_at kind k message)) h

pub facts_none : (kind : NameKind) (n k : ℕ) (message : List ℕ) (at : ℕ) → n ≡ suc k → record_at kind message at ≡ None → facts_at kind n message at ≡ None
unfolding facts_at
facts_none kind n k message at e h = ap (λ (j : ℕ). facts_at kind j message at) e ∙ ap (facts_behind (facts_at kind k message)) h

some_onto : (fact : Fact) (facts : Option (List Fact)) → is_some (onto_facts fact facts) ≡ is_some facts
some_onto fact None = refl
some_onto fact (Some facts) = refl

pub readable_more : (kind : NameKind) (n k : ℕ) (message : List ℕ) (at : ℕ) (r : RecordThere) → n ≡ suc k → Some r ≡ record_at kind message at
    → is_some (facts_at kind n message at) ≡ is_some (facts_at kind k message r.behind)
readable_more kind n k message at r e h = ap is_some (facts_more kind n k message at r e (sym h)) ∙ some_onto r.fact (facts_at kind k message r.behind)

pub readable_none : (kind : NameKind) (n k : ℕ) (message : List ℕ) (at : ℕ) → n ≡ suc k → None ≡ record_at kind message at → is_some (facts_at kind n message at) ≡ false
readable_none kind n k message at e h = ap is_some (facts_none kind n k message at e (sym h))

pub readable_all : (kind : NameKind) (n : ℕ) (message : List ℕ) (at : ℕ) → n ≡ 0 → is_some (facts_at kind n message at) ≡ true
unfolding facts_at
readable_all kind n message at e = ap (λ (j : ℕ). is_some (facts_at kind j message at)) e

-- A record by the offset behind its name.
pub record_by : (kind : NameKind) (message : List ℕ) (at fields : ℕ) → behind_of (name_at message at) ≡ Some fields → fields + 10 + number_at message (fields + 8) ≤ length message
    → record_at kind message at ≡ there (name_there message at) (fields + 10 + number_at message (fields + 8))
    (says_of kind message (number_at message fields) (number_at message (fields + 2)) (fields + 10) (number_at message (fields + 8)))
unfolding record_at
record_by kind message at fields e room = go (name_at message at) e where
  go : (name : Option WireName) → behind_of name ≡ Some fields → record_from kind message name ≡ there (labels_known (lowered_of name)) (fields + 10 + number_at message (fields + 8))
      (says_of kind message (number_at message fields) (number_at message (fields + 2)) (fields + 10) (number_at message (fields + 8)))
  go None e = cc
  go (Some name) e =
      let same : name.behind ≡ fields = cc in
      let fields_room : leb (fields + 10) (length message) ≡ true = le-leb _ _ (omega (arith, room)) in
      let data_room : leb (fields + 10 + number_at message (fields + 8)) (length message) ≡ true = le-leb _ _ room in
      rw same (rw (fields_room, data_room) refl)

pub record_no_name : (kind : NameKind) (message : List ℕ) (at : ℕ) → behind_of (name_at message at) ≡ None → record_at kind message at ≡ None
unfolding record_at
record_no_name kind message at e = go (name_at message at) e where
  go : (name : Option WireName) → behind_of name ≡ None → record_from kind message name ≡ None
  go None e = refl
  go (Some name) e = cc

pub record_no_fields : (kind : NameKind) (message : List ℕ) (at fields : ℕ) → behind_of (name_at message at) ≡ Some fields → length message < fields + 10 → record_at kind message at ≡ None
unfolding record_at
record_no_fields kind message at fields e short = go (name_at message at) e where
  go : (name : Option WireName) → behind_of name ≡ Some fields → record_from kind message name ≡ None
  go None e = refl
  go (Some name) e =
      let same : name.behind ≡ fields = cc in
      let no_room : leb (fields + 10) (length message) ≡ false = lt-leb _ _ short in
      rw same (rw no_room refl)

pub record_no_data : (kind : NameKind) (message : List ℕ) (at fields : ℕ) → behind_of (name_at message at) ≡ Some fields → length message < fields + 10 + number_at message (fields + 8)
    → record_at kind message at ≡ None
unfolding record_at
record_no_data kind message at fields e short = go (name_at message at) e where
  go : (name : Option WireName) → behind_of name ≡ Some fields → record_from kind message name ≡ None
  go None e = refl
  go (Some name) e =
      let same : name.behind ≡ fields = cc in
      let no_room : leb (fields + 10 + number_at message (fields + 8)) (length message) ≡ false = lt-leb _ _ short in
      rw same (hop (leb (fields + 10) (length message)) no_room) where
        hop : (b : Bool) → leb (fields + 10 + number_at message (fields + 8)) (length message) ≡ false
            → cond b (cond (leb (fields + 10 + number_at message (fields + 8)) (length message)) (there (lowered name.labels) (fields + 10 + number_at message (fields + 8))
            (says_of kind message (number_at message fields) (number_at message (fields + 2)) (fields + 10) (number_at message (fields + 8)))) None) None ≡ None
        hop true no_room = rw no_room refl
        hop false no_room = refl

some_says : (owner : List (List ℕ)) (behind : ℕ) (says : Option Says) → IsSome (there owner behind says) → IsSome says
some_says owner behind None h = h
some_says owner behind (Some s) h = refl

-- a name stands where a record can be read, and where one is spelled
pub name_of_record : (kind : NameKind) (message : List ℕ) (at : ℕ) → IsSome (record_at kind message at) → IsSome (name_at message at)
unfolding record_at
name_of_record kind message at h = go (name_at message at) h where
  go : (name : Option WireName) → IsSome (record_from kind message name) → IsSome name
  go None h = h
  go (Some name) h = refl

pub name_spelled : (name : Option WireName) (labels : List (List ℕ)) → are_labels (lowered_of name) labels ≡ true → IsSome name
name_spelled None labels h = h
name_spelled (Some name) labels h = refl

-- a record stands where one can be read
pub known_there : (kind : NameKind) (message : List ℕ) (at fields : ℕ) → IsSome (record_at kind message at) → IfSome (behind_of (name_at message at)) (λ behind. fields ≡ behind)
    → IsThere kind message at fields
unfolding record_at
known_there kind message at fields h end =
    let parts = go (name_at message at) refl h end in
    record { name = parts.0; room = parts.1; says = parts.2; owner = parts.3 } where
      go : (name : Option WireName) → name_at message at ≡ name → IsSome (record_from kind message name) → IfSome (behind_of name) (λ behind. fields ≡ behind)
          → (behind_of (name_at message at) ≡ Some fields) × (fields + 10 + number_at message (fields + 8) ≤ length message)
          × IsSome (says_of kind message (number_at message fields) (number_at message (fields + 2)) (fields + 10) (number_at message (fields + 8))) × IsSome (labels_at message at)
      go None e h end = absurd (false≢true h)
      go (Some name) e h end =
          let read : IsSome (record_from kind message (Some (record { labels = name.labels; behind = fields }))) = subst (λ (n : ℕ). IsSome (record_from kind message (Some (record { labels = name.labels; behind = n })))) (sym end) h in
          let inner = hop (leb (fields + 10) (length message)) (leb (fields + 10 + number_at message (fields + 8)) (length message)) refl read in
          (ap behind_of e ∙ ap Some (sym end), leb-true _ _ inner.0, some_says _ _ _ inner.1, rw e refl) where
            hop : (b t : Bool) → leb (fields + 10 + number_at message (fields + 8)) (length message) ≡ t
                → IsSome (cond b (cond t (there (lowered name.labels) (fields + 10 + number_at message (fields + 8))
                (says_of kind message (number_at message fields) (number_at message (fields + 2)) (fields + 10) (number_at message (fields + 8)))) None) None)
                → (leb (fields + 10 + number_at message (fields + 8)) (length message) ≡ true)
                × IsSome (there (lowered name.labels) (fields + 10 + number_at message (fields + 8))
                (says_of kind message (number_at message fields) (number_at message (fields + 2)) (fields + 10) (number_at message (fields + 8))))
            hop true true e h = (e, h)
            hop true false e h = absurd (false≢true h)
            hop false t e h = absurd (false≢true h)

-- what was read is what stands there
pub record_read : (kind : NameKind) (message : List ℕ) (at fields rdlength : ℕ) (says : Option Says) → behind_of (name_at message at) ≡ Some fields → rdlength ≡ number_at message (fields + 8)
    → fields + 10 + rdlength ≤ length message → says ≡ says_of kind message (number_at message fields) (number_at message (fields + 2)) (fields + 10) rdlength
    → record_at kind message at ≡ there (name_there message at) (fields + 10 + rdlength) says
record_read kind message at fields rdlength says name size room told =
    rw (told, size) (record_by kind message at fields name (subst (λ (n : ℕ). fields + 10 + n ≤ length message) size room))

-- where all records are readable, the next one is, and so are those behind it
pub first_readable : (kind : NameKind) (n k : ℕ) (message : List ℕ) (at : ℕ) → n ≡ suc k → IsSome (facts_at kind n message at) → IsSome (record_at kind message at)
first_readable kind n k message at e h = go (record_at kind message at) refl where
  go : (o : Option RecordThere) → record_at kind message at ≡ o → IsSome o
  go None q = absurd (false≢true (sym (ap is_some (facts_none kind n k message at e q)) ∙ h))
  go (Some r) q = refl

pub rest_readable : (kind : NameKind) (n k : ℕ) (message : List ℕ) (at : ℕ) (r : RecordThere) → n ≡ suc k → record_at kind message at ≡ Some r → IsSome (facts_at kind n message at) → IsSome (facts_at kind k message r.behind)
rest_readable kind n k message at r e q h = sym (readable_more kind n k message at r e (sym q)) ∙ h

known_onto : (fact : Fact) (facts : Option (List Fact)) → IsSome facts → facts_known (onto_facts fact facts) ≡ fact ∷ facts_known facts
known_onto fact None h = absurd (false≢true h)
known_onto fact (Some facts) h = refl

-- the facts that are left, one less
pub known_more : (kind : NameKind) (n k : ℕ) (message : List ℕ) (at : ℕ) (r : RecordThere) → n ≡ suc k → record_at kind message at ≡ Some r → IsSome (facts_at kind n message at)
    → facts_known (facts_at kind n message at) ≡ r.fact ∷ facts_known (facts_at kind k message r.behind)
known_more kind n k message at r e q h = ap facts_known (facts_more kind n k message at r e q) ∙ known_onto r.fact (facts_at kind k message r.behind) (rest_readable kind n k message at r e q h)

-- names that are known to stand are compared by their labels
pub same_known : (message : List ℕ) (a b : ℕ) → IsSome (labels_at message a) → IsSome (labels_at message b) → is_same_name message a b ≡ same_labels (name_there message b) (name_there message a)
same_known message a b h k = go (labels_at message a) (labels_at message b) h k where
  go : (x y : Option (List (List ℕ))) → IsSome x → IsSome y → are_same x y ≡ same_labels (labels_known y) (labels_known x)
  go None y h k = absurd (false≢true h)
  go (Some x) None h k = absurd (false≢true k)
  go (Some x) (Some y) h k = refl
