mod Counting
mod Cutting
mod Wording
