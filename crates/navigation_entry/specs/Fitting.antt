-- Fitting long texts into a payload: URL, title and page state in their order, with a running sum of their bytes.
-- A field that would bring the sum to the limit is emptied and adds nothing (this profile, after the limit of
-- Chromium's serialized navigations).
use Rattle.std.specs.Prelude.{ℕ, ◌+◌, ◌*◌, List, [], length, nat_lt, if◌then◌else◌}

abbrev pub limit : ℕ
limit = 64511

-- a field of so many bytes, behind fields that sum up to this
abbrev pub kept : ℕ → ℕ → List ℕ → List ℕ
kept sum size field = if nat_lt (sum + size) limit then field else []

abbrev pub sum_with : ℕ → ℕ → ℕ
sum_with sum size = if nat_lt (sum + size) limit then sum + size else sum

abbrev pub url_sum : List ℕ → ℕ
url_sum url = sum_with 0 (length url)

abbrev pub title_sum : List ℕ → List ℕ → ℕ
title_sum url title = sum_with (url_sum url) (2 * length title)

abbrev pub fitted_url : List ℕ → List ℕ
fitted_url url = kept 0 (length url) url

abbrev pub fitted_title : List ℕ → List ℕ → List ℕ
fitted_title url title = kept (url_sum url) (2 * length title) title

abbrev pub fitted_page_state : List ℕ → List ℕ → List ℕ → List ℕ
fitted_page_state url title page_state = kept (title_sum url title) (length page_state) page_state
