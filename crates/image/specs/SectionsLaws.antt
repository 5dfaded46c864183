-- The five sections of an image, in the edition whose counts have c bytes: what stands in each part of sections that are put together, and parts that are put
-- together again.
use Rattle.std.specs.Prelude.{◌≡◌, List, ◌++◌, ℕ, ◌+◌, length, take, drop}
use Rattle.std.proofs.Common.{sym, ◌∙◌, ap, ap₂, arith, take-append-drop, length-drop, take_at, take_all, drop_at, drop-drop}
use Rattle.reading.specs.Restore.{part}
use Rattle.octets.specs.Bytes.{total}
use Rattle.reading.specs.Layout.{table_length, settings_offset, gatherer_offset, gatherer_length, values_offset, values_widths_with, events_offset_with, events_widths_with, image_length_with}
use Rattle.settings.specs.Settings.{settings_length}

-- parts of a list, put together again from the last on
module _ (b : List ℕ) (o n : ℕ) (x : List ℕ) (is : x ≡ take n (drop o b)) where
  part-last : length b ≡ o + n → x ≡ drop o b
  part-last l = is ∙ take_all n (drop o b) (simp length-drop (omega arith))

  part_join : (y : List ℕ) → y ≡ drop (o + n) b → x ++ y ≡ drop o b
  part_join y e = ap₂ ◌++◌ is (e ∙ sym (drop-drop n o b)) ∙ take-append-drop n (drop o b)

-- what stands behind a part of known length
drop_past : (b : List ℕ) (o k : ℕ) (p r : List ℕ) → drop o b ≡ p ++ r → length p ≡ k → drop (o + k) b ≡ r
drop_past b o k p r e l = sym (drop-drop k o b) ∙ (ap (drop k) e ∙ drop_at p r k l)

pub record Sections (c : ℕ) (b contents settings gatherer values events : List ℕ) : Type 0 where
  pub contents-part : part 0 table_length b ≡ contents
  pub settings-part : part settings_offset settings_length b ≡ settings
  pub gatherer-part : part gatherer_offset gatherer_length b ≡ gatherer
  pub values-part : part values_offset (total (values_widths_with c)) b ≡ values
  pub events-part : part (events_offset_with c) (total (events_widths_with c)) b ≡ events

module _ (c : ℕ) (b contents settings gatherer values events : List ℕ) where
  abbrev values_length : ℕ
  values_length = total (values_widths_with c)

  abbrev events_offset : ℕ
  events_offset = events_offset_with c

  abbrev events_length : ℕ
  events_length = total (events_widths_with c)

  pub sections-are : b ≡ contents ++ (settings ++ (gatherer ++ (values ++ events))) →
      length contents ≡ table_length → length settings ≡ settings_length → length gatherer ≡ gatherer_length → length values ≡ values_length → length events ≡ events_length →
      Sections c b contents settings gatherer values events
  sections-are e t s g v l =
      let behind-table = drop_past b 0 table_length contents (settings ++ (gatherer ++ (values ++ events))) e t in
      let behind-settings = drop_past b settings_offset settings_length settings (gatherer ++ (values ++ events)) behind-table s in
      let behind-gatherer = drop_past b gatherer_offset gatherer_length gatherer (values ++ events) behind-settings g in
      let behind-values = drop_past b values_offset values_length values events behind-gatherer v in
      record {
        contents-part = ap (take table_length) e ∙ take_at contents _ table_length t;
        settings-part = ap (take settings_length) behind-table ∙ take_at settings _ settings_length s;
        gatherer-part = ap (take gatherer_length) behind-settings ∙ take_at gatherer _ gatherer_length g;
        values-part = ap (take values_length) behind-gatherer ∙ take_at values _ values_length v;
        events-part = ap (take events_length) behind-values ∙ take_all events_length events (omega arith);
      }

  pub sections-join : length b ≡ image_length_with c → Sections c b contents settings gatherer values events → contents ++ (settings ++ (gatherer ++ (values ++ events))) ≡ b
  sections-join l p =
      let from-events = part-last b events_offset events_length events (sym p.events-part) l in
      let from-values = part_join b values_offset values_length values (sym p.values-part) events from-events in
      let from-gatherer = part_join b gatherer_offset gatherer_length gatherer (sym p.gatherer-part) _ from-values in
      let from-settings = part_join b settings_offset settings_length settings (sym p.settings-part) _ from-gatherer in
      part_join b 0 table_length contents (sym p.contents-part) _ from-settings
