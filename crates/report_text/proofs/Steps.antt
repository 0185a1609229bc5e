-- A report, written line by line of its batch.
use Rattle.std.proofs.Common.{◌≡◌, ℕ, suc, ◌+◌, ◌-◌, ◌<◌, ◌≤◌, ℤ, List, [], ◌∷◌, ◌++◌, drop, take, get_or, length, map, sym, ap, ◌∙◌, arith}
use Rattle.std.proofs.lemmas.List.{append_assoc, drop_more, take_all}
use Rattle.bad_proxy_table.specs.Retry.{Report, Failed, Worked, StandsFor}
use Rattle.batch_text.specs.declared.batch.BatchLine.{BatchLine}
use Rattle.batch_text.specs.Batch.{BatchEntry, Asks, ProxyFailed, ProxyWorked, entry_seen}
use Rattle.batch_text.specs.View.{Seen}
use Rattle.proxy_list.specs.declared.proxy.Proxy.{Proxy}
use Rattle.report_text.specs.declared.blocks.UrlEnd as declared
use Rattle.report_text.specs.Report.{UrlEnd, block, report_from, seen_end, tries_of}

-- what is written, with the report of the lines that are left, is the whole, after the reports for which the table stands
pub record Stands (number : ℕ) (out : List ℕ) (failures : List (Proxy × ℤ)) (left : List BatchEntry) (ends : List UrlEnd) (whole : List ℕ) : Type 0 where
  pub reports : List Report
  pub known : StandsFor failures reports
  pub written : out ++ report_from number reports left ends ≡ whole

pub after_failure : {number : ℕ} {out : List ℕ} {old new : List (Proxy × ℤ)} {moment : ℤ} {proxy : Proxy} {left : List BatchEntry} {ends : List UrlEnd} {whole : List ℕ}
    → Stands number out old (ProxyFailed moment proxy ∷ left) ends whole
    → ((reports : List Report) → StandsFor old reports → StandsFor new (Failed proxy moment ∷ reports))
    → Stands number out new left ends whole
after_failure {moment = moment} {proxy = proxy} stands taken = record {
  reports = Failed proxy moment ∷ stands.reports;
  known = taken stands.reports stands.known;
  written = stands.written;
}

pub after_success : {number : ℕ} {out : List ℕ} {old new : List (Proxy × ℤ)} {moment : ℤ} {proxy : Proxy} {left : List BatchEntry} {ends : List UrlEnd} {whole : List ℕ}
    → Stands number out old (ProxyWorked moment proxy ∷ left) ends whole
    → ((reports : List Report) → StandsFor old reports → StandsFor new (Worked proxy moment ∷ reports))
    → Stands number out new left ends whole
after_success {moment = moment} {proxy = proxy} stands taken = record {
  reports = Worked proxy moment ∷ stands.reports;
  known = taken stands.reports stands.known;
  written = stands.written;
}

pub after_url : {number : ℕ} {old new : List ℕ} {failures : List (Proxy × ℤ)} {moment : ℤ} {seen : Seen} {left : List BatchEntry} {end : UrlEnd} {ends : List UrlEnd} {whole : List ℕ}
    → Stands number old failures (Asks moment seen ∷ left) (end ∷ ends) whole
    → ((reports : List Report) → StandsFor failures reports → new ≡ old ++ block number seen.url end (tries_of reports moment end.end))
    → Stands (number + 1) new failures left ends whole
after_url {number = number} {old = old} {moment = moment} {seen = seen} {left = left} {end = end} {ends = ends} stands wrote = record {
  reports = stands.reports;
  known = stands.known;
  written =
      ap (λ (out : List ℕ). out ++ report_from (number + 1) stands.reports left ends) (wrote stands.reports stands.known)
      ∙ append_assoc old (block number seen.url end (tries_of stands.reports moment end.end)) (report_from (number + 1) stands.reports left ends)
      ∙ stands.written;
}

-- the next line of a batch, and those behind it
pub next_line : (lines : List BatchLine) (i : ℕ) (line : BatchLine) → line ≡ get_or lines i line → i < length lines
    → map entry_seen (drop i lines) ≡ entry_seen line ∷ map entry_seen (drop (i + 1) lines)
next_line lines i line is within = ap (map entry_seen) (drop_more lines i line within ∙ ap (λ (x : BatchLine). x ∷ drop (i + 1) lines) (sym is))

-- the next end, and those behind it
pub next_end : (ends : List declared.UrlEnd) (end : declared.UrlEnd) → end ≡ get_or ends 0 end → 1 ≤ length ends
    → map seen_end ends ≡ seen_end end ∷ map seen_end (take (length ends - 1) (drop 1 ends))
next_end [] end is some = absurd (omega (arith, some))
next_end (x ∷ xs) end is some =
    let rest : take (suc (length xs) - 1) xs ≡ xs = take_all (suc (length xs) - 1) xs (omega arith) in
    ap (λ (e : declared.UrlEnd). seen_end e ∷ map seen_end xs) (sym is) ∙ ap (λ (es : List declared.UrlEnd). seen_end end ∷ map seen_end es) (sym rest)
