pub mod FaceCourses
