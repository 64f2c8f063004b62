mod ActiveLaws
mod CommandLaws
mod GapLaws
mod PlaceLaws
mod TidyingLaws
mod WindowLaws
mod WorkedTidyings
