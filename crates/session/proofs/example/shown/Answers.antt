-- The whole list as `proofs/Shown` has it; each wrong answer against one number.
use Rattle.std.proofs.Common.{◌≡◌, ℕ, List, [], ◌∷◌, ℤ, pos, Some, None, Option, refl, ap, arith}
use Rattle.sheet.specs.declared.fault.Cause.TheVariants.{TableLength, Absent, NoPerfectPairing}
use Rattle.sheet.specs.Numbers.{cause_number}
use Rattle.sheet.specs.Refusals.{fault}
use Rattle.session.specs.Book.{Verdict, not_allowed, refused, accepted}
use Rattle.session.specs.Example.{first, second}
use Rattle.session.proofs.Shown.{keeps, readings_keep, crowded_keeps, bare_keeps, not_greatest}
use Rattle.session.proofs.Shown.{not_one, not_two}
use Rattle.session.proofs.example.shown.Goals as goal

-- the number of the cause that a verdict refuses for, and 0 where it does not
abbrev refused_by : Verdict → ℕ
refused_by not_allowed = 0
refused_by accepted = 0
refused_by (refused f) = cause_number f.cause

pub returns : goal.returns
returns c = record {
  keeps = keeps;
  crowded_keeps = crowded_keeps;
  bare_keeps = bare_keeps;
  readings_keep = readings_keep;
  tables = λ lent. refl;
  repeats = λ h.
      let e : ◌≡◌ {A = List (Option (List ℕ))} (Some first ∷ Some first ∷ [])
      (Some first ∷ Some second ∷ []) = h.1.0.walks_are.walks.0 in
      cc;
  skips = λ h.
      let e : ◌≡◌ {A = List (Option (List ℕ))} (Some second ∷ []) (Some first ∷ []) =
      h.0.walks_are.walks.0 in
      cc;
  ends_early = λ h.
      let e : ◌≡◌ {A = List (Option (List ℕ))} (Some first ∷ None ∷ [])
      (Some first ∷ Some second ∷ []) = h.1.0.walks_are.walks.0 in
      cc;
  goes_on = λ h.
      let e : ◌≡◌ {A = List (Option (List ℕ))} (Some first ∷ Some second ∷ Some second ∷ [])
      (Some first ∷ Some second ∷ None ∷ []) = h.1.1.0.walks_are.walks.0 in
      cc;
  all_yes = λ h. omega (arith, h.0.reply_is.marks 0 2 (omega arith) (omega arith));
  all_no = λ h. omega (arith, h.0.reply_is.marks 0 0 (omega arith) (omega arith));
  too_few = λ h. omega (arith, h.0.reply_is.long);
  stores_nothing = λ h.
      let e : ◌≡◌ {A = Verdict} (refused (fault Absent 0)) accepted = h.1.0.verdict_is in
      cc;
  wrong_read = λ h.
      let e : ◌≡◌ {A = Option ℤ} (Some (pos 4)) (Some (pos 5)) = h.1.0.reply_is in
      let z : ◌≡◌ {A = ℕ} 4 5 = cc in omega (arith, z);
  later_replaces = λ h.
      let e : ◌≡◌ {A = Option ℤ} (Some (pos 7)) (Some (pos 4)) = h.1.1.0.reply_is in
      let z : ◌≡◌ {A = ℕ} 7 4 = cc in omega (arith, z);
  lesser_kept = λ h.
      let e : ◌≡◌ {A = Option ℤ} (Some (pos 7)) (Some (pos 4)) = h.1.1.0.reply_is in
      let z : ◌≡◌ {A = ℕ} 7 4 = cc in omega (arith, z);
  struck_in_force = λ h.
      let e : ◌≡◌ {A = Option ℤ} (Some (pos 4)) (Some (pos 7)) = h.1.1.1.0.reply_is in
      let z : ◌≡◌ {A = ℕ} 4 7 = cc in omega (arith, z);
  strikes_nothing = λ h.
      let e : ◌≡◌ {A = Verdict} accepted (refused (fault Absent 0)) = h.0.verdict_is in
      cc;
  block_first = λ h.
      let z : ◌≡◌ {A = ℕ} 3 2 = ap refused_by h.0.verdict_is in omega (arith, z);
  short_taken = λ h.
      let e : ◌≡◌ {A = Verdict} accepted (refused (fault TableLength 0)) = h.0.verdict_is in
      cc;
  not_first = λ h.
      let e : first ≡ second = h.0.reply_is.first.1 in
      cc;
  not_greatest = λ h. not_greatest h.0.reply_is;
  crowd_made_up = λ h. not_one h.1.1.0.reply_is.explained.1;
  short_made_up = λ h. not_two h.1.1.0.reply_is.explained.1;
  unexplained = λ h. h.0.reply_is.explained refl;
  wrong_total = λ h.
      let e : ◌≡◌ {A = List ℤ} (pos 8 ∷ []) (pos 7 ∷ []) = h.0.reply_is in
      let z : ◌≡◌ {A = ℕ} 8 7 = cc in omega (arith, z);
  refuses_all = λ h.
      let e : ◌≡◌ {A = Verdict} (refused (fault NoPerfectPairing 0)) accepted = h.0.verdict_is in
      cc;
  no_prices = λ h. omega (arith, h.0.reply_is.left_long);
  other_prices = λ h.
      let e : ◌≡◌ {A = List ℤ} (pos 3 ∷ []) (pos 2 ∷ []) = h.0.reply_is.slack in
      let z : ◌≡◌ {A = ℕ} 3 2 = cc in omega (arith, z);
  seven = λ h. h.0.reply_is.never_seven refl;
}
