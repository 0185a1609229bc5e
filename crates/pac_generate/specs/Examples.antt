-- Worked values of the seed 1.
use Rattle.std.specs.Prelude.{◌≡◌, codes, refl}
use Rattle.std.specs.Fmt.{digits}
use Rattle.pac_names.specs.declared.answer.Answer.TheVariants.{Address, NoAddress}
use Rattle.pac_generate.specs.Numbers.{number_behind, site_number}
use Rattle.pac_generate.specs.Names.{site_host, gate_host, site_answer, gate_answer, inner_address}
use Rattle.pac_generate.specs.Generated.{site_url}
use Rattle.pac_generate.specs.Summary.{summary_text}

pub first_number : number_behind 1 1 ≡ 1015568748
first_number = refl

pub second_number : number_behind 1 2 ≡ 1586005467
second_number = refl

pub third_number : number_behind 1 3 ≡ 2165703038
third_number = refl

pub first_upper : site_number 1 0 ≡ 15496
first_upper = refl

pub second_upper : site_number 1 1 ≡ 24200
second_upper = refl

pub third_upper : site_number 1 2 ≡ 33046
third_upper = refl

-- 10.60.136.1
pub first_answer : site_answer (site_number 1 0) ≡ inner_address 60 136
first_answer = refl

pub second_answer : site_answer (site_number 1 1) ≡ NoAddress
second_answer = refl

-- 10.129.22.1
pub third_answer : site_answer (site_number 1 2) ≡ Address 0x0a811601
third_answer = refl

-- 10.9.0.1
pub last_gate : gate_answer 9 ≡ Address 0x0a090001
last_gate = refl

pub gate : gate_host 9 ≡ codes "gw9.example"
unfolding digits
gate = refl

pub site : site_host 255 ≡ codes "site255.example"
unfolding digits
site = refl

pub url : site_url 0 ≡ codes "http://site0.example/"
unfolding digits
url = refl

pub summary : summary_text (record {
  seed = 1;
  sites = 3;
  urls = 3;
  runs = 9;
  names = 6;
  kinds = record { direct = 1; proxy = 1; socks = 1 };
}) ≡ codes "seed 1 sites 3\nurls 3 runs 9 names 6\ndirect 1 proxy 1 socks 1\n"
unfolding summary_text digits
summary = refl
